-- A lawful operation, by what it leaves of the aggregates and of the accounts.
use Rattle.op_laws.proofs.Prelude.{◌≡◌, refl, sym, ap, subst, ◌∙◌, ℕ, ◌<◌, List, [], inl, inr, arith, ints, All-weaker}
use Rattle.op_laws.proofs.Prelude.{ℤ, pos, ◌+ℤ◌, AccountId, AccountEntry, Asset, OperationResult, EntryMap, account_at}
use Rattle.op_laws.proofs.Prelude.{HasAccount, total, Ctx, Sponsorship, View, held, nothing_owed, IsLegalOwing}
use Rattle.op_laws.proofs.Prelude.{AreEntriesLegal, AreSponsorshipsSound, view, view_of, same_id_at, Done, OfAccount}
use Rattle.op_laws.proofs.Prelude.{Move, IsCovered, IsLawful, gained, issued, AreDescribed, lumens_at, IsUnderway}
use Rattle.op_laws.proofs.Prelude.{AreDrawn, KeepsTerms, entries_legal, owing_of, IsKeyed, Increase, none_more}
use Rattle.op_laws.proofs.Prelude.{HoldsMore, lumens_there, IsAfter, IsCoveredBy, Leaves, ShiftsLegal}
use Rattle.op_flags.specs.ledger_types.declared.asset.Asset.TheVariants as asset
use Rattle.op_laws.proofs.Lumens.{nothing_issued}
use Rattle.op_laws.proofs.Described.{Describes, described_by, describes_nothing}

-- A change keeps a state legal, and the supply of the asset at hand, by whatever it is viewed.
abbrev pub KeepsLegal : ℕ → (old new : EntryMap) → Type 0
KeepsLegal id_pool old new = (v : View) (sum : ℤ) → IsLegalOwing v id_pool nothing_owed sum old
    → IsLegalOwing v id_pool nothing_owed sum new

-- The same where ids are drawn up to `next`.
abbrev pub DrawsLegal : (id_pool next : ℕ) → (Asset → ℤ) → (old new : EntryMap) → Type 0
DrawsLegal id_pool next shift old new = (v : View) (sum : ℤ) → IsLegalOwing v id_pool nothing_owed sum old
    → IsLegalOwing v next nothing_owed (sum +ℤ shift v.asset) new

abbrev pub AreEachAfter : ℕ → (old new : EntryMap) → Type 0
AreEachAfter base old new = (id : AccountId) → IsAfter base (account_at old id) (account_at new id)

pub terms_kept : (ctx : Ctx) → KeepsTerms ctx ctx
terms_kept ctx = record {
  seq = refl;
  version = refl;
  base_reserve = refl;
  flags = refl;
  close_time = refl;
  tx_source = refl;
  tx_seq = refl;
}

pub none_drawn : (count was now : ℕ) → now ≡ was → AreDrawn count was now
none_drawn count was now same = record { low = omega arith; high = omega arith }

plus_none : (x y n : ℤ) → x ≡ y → n ≡ pos 0 → x ≡ (y +ℤ n)
plus_none x y n same none = omega (arith, ints)

pub covered_as : (ctx : Ctx) (m : EntryMap) (id : AccountId) (a : AccountEntry) → a.account_id ≡ id
    → IsCoveredBy ctx.base_reserve (account_at m id) a → IsCovered ctx m a
covered_as ctx m id a named (inl low) = inl low
covered_as ctx m id a named (inr was) = inr (was.0, ap (account_at m) named ∙ was.1, was.2)

-- what is said of each holder says the lumens of each account
pub lumens_described_by : (m new : EntryMap) (moves : List Move) → IsKeyed m → IsKeyed new → AreDescribed m new moves
    → (id : AccountId) → lumens_at new id ≡ (lumens_at m id +ℤ gained asset.Native (OfAccount id) moves)
lumens_described_by m new moves keyed also described id =
    lumens_there new id also ∙ described asset.Native (OfAccount id) refl
    ∙ ap (λ n. n +ℤ gained asset.Native (OfAccount id) moves) (sym (lumens_there m id keyed))

module _ (ctx : Ctx) (m : EntryMap) (under : IsUnderway ctx m) (more : Increase) where
  pub shifted_after : (shift : Asset → ℤ) (new : EntryMap) → ShiftsLegal ctx.id_pool shift m new
      → AreEntriesLegal ctx.id_pool new
  shifted_after shift new shifts =
      entries_legal (view m) ctx.id_pool (total (held asset.Native) m +ℤ shift asset.Native) new
      (shifts (view m) (total (held asset.Native) m) under.settled.legal)

  -- the entries are left so, with what the moves issue and the ids that are drawn, in a context with the same terms
  pub lawful_drawn : (done : Done) → DrawsLegal ctx.id_pool done.ctx.id_pool (λ x. issued x done.moves) m done.entries
      → AreEachAfter ctx.base_reserve m done.entries → HoldsMore more m done.entries → Describes more done.moves
      → KeepsTerms ctx done.ctx → AreDrawn 1 ctx.id_pool done.ctx.id_pool
      → AreSponsorshipsSound done.ctx done.entries → IsLawful ctx m done
  lawful_drawn done shifts each holds describes terms drawn sound =
      let legal : AreEntriesLegal done.ctx.id_pool done.entries =
      entries_legal (view m) done.ctx.id_pool (total (held asset.Native) m +ℤ issued asset.Native done.moves)
      done.entries (shifts (view m) (total (held asset.Native) m) under.settled.legal) in
      let described = described_by more m done.entries done.moves holds describes in
      record {
        legal = record {
          settled = record { legal = legal };
          sponsorships = sound;
          seq = subst (λ n. n < 2147483647) (sym terms.seq) under.seq;
        };
        terms = terms;
        ids = drawn;
        lumens = lumens_described_by m done.entries done.moves under.settled.legal.keyed legal.keyed described;
        described = described;
        supply = λ x. (shifts (view_of x m) (total (held x) m) (owing_of x ctx.id_pool m under.settled.legal)).supply;
        reserves = λ id a exists. covered_as ctx m id a (same_id_at done.entries id a legal.keyed exists)
            ((each id).covered a exists);
      }

  -- the same where no id is drawn
  pub lawful_moved : (done : Done) → ShiftsLegal ctx.id_pool (λ x. issued x done.moves) m done.entries
      → AreEachAfter ctx.base_reserve m done.entries → HoldsMore more m done.entries → Describes more done.moves
      → KeepsTerms ctx done.ctx → done.ctx.id_pool ≡ ctx.id_pool
      → AreSponsorshipsSound done.ctx done.entries → IsLawful ctx m done
  lawful_moved done shifts each holds describes terms pool sound =
      lawful_drawn done
      (subst (λ n. DrawsLegal ctx.id_pool n (λ x. issued x done.moves) m done.entries) (sym pool) shifts) each holds
      describes terms (none_drawn 1 ctx.id_pool done.ctx.id_pool pool) sound

  -- the same where nothing is issued
  pub lawful_by : (done : Done) → KeepsLegal ctx.id_pool m done.entries
      → AreEachAfter ctx.base_reserve m done.entries → HoldsMore more m done.entries → Describes more done.moves
      → ((x : Asset) → issued x done.moves ≡ pos 0) → KeepsTerms ctx done.ctx → done.ctx.id_pool ≡ ctx.id_pool
      → AreSponsorshipsSound done.ctx done.entries → IsLawful ctx m done
  lawful_by done keeps each holds describes none terms pool sound =
      lawful_moved done
      (λ v sum legal. subst (λ n. IsLegalOwing v ctx.id_pool nothing_owed n done.entries)
      (plus_none sum sum (issued v.asset done.moves) refl (none v.asset)) (keeps v sum legal)) each holds describes
      terms pool sound

  pub sound_after : (new : EntryMap) → ((id : AccountId) → HasAccount m id → HasAccount new id)
      → AreSponsorshipsSound ctx new
  sound_after new exist = record {
    once = under.sponsorships.once;
    other = under.sponsorships.other;
    exist = All-weaker (λ (x : Sponsorship). HasAccount m x.sponsor) (λ x. HasAccount new x.sponsor)
        (λ x. exist x.sponsor) ctx.sponsorships under.sponsorships.exist;
  }

  -- the same in the same context
  pub lawful_here : (result : OperationResult) (new : EntryMap) (moves : List Move) → KeepsLegal ctx.id_pool m new
      → Leaves ctx.base_reserve more m new → Describes more moves → ((x : Asset) → issued x moves ≡ pos 0)
      → IsLawful ctx m (record { result = result; entries = new; ctx = ctx; moves = moves })
  lawful_here result new moves keeps leaves describes none =
      lawful_by (record { result = result; entries = new; ctx = ctx; moves = moves }) keeps leaves.each leaves.holds
      describes none (terms_kept ctx) refl (sound_after new leaves.exist)

  -- the same with what the moves issue
  pub lawful_with : (result : OperationResult) (new : EntryMap) (moves : List Move)
      → ShiftsLegal ctx.id_pool (λ x. issued x moves) m new → Leaves ctx.base_reserve more m new
      → Describes more moves → IsLawful ctx m (record { result = result; entries = new; ctx = ctx; moves = moves })
  lawful_with result new moves shifts leaves describes =
      lawful_moved (record { result = result; entries = new; ctx = ctx; moves = moves }) shifts leaves.each
      leaves.holds describes (terms_kept ctx) refl (sound_after new leaves.exist)

-- nothing moves
pub lawful_still : (ctx : Ctx) (m : EntryMap) → IsUnderway ctx m → (result : OperationResult) (new : EntryMap)
    → KeepsLegal ctx.id_pool m new → Leaves ctx.base_reserve none_more m new
    → IsLawful ctx m (record { result = result; entries = new; ctx = ctx; moves = [] })
lawful_still ctx m under result new keeps leaves =
    lawful_here ctx m under none_more result new [] keeps leaves describes_nothing nothing_issued
