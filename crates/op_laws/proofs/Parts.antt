-- Parts of an operation: what one leaves and moves, one after another, and that all together are lawful.
use Rattle.op_laws.proofs.Prelude.{◌≡◌, refl, ◌∙◌, ℕ, List, [], ◌++◌, arith, ints, ℤ, ◌+ℤ◌, Asset, OperationResult}
use Rattle.op_laws.proofs.Prelude.{EntryMap, total, Ctx, View, Increase, none_more, both_more, view, nothing_owed}
use Rattle.op_laws.proofs.Prelude.{IsLegalOwing, AreEntriesLegal, held, Leaves, leaves_itself, leaves_both, view_of}
use Rattle.op_laws.proofs.Prelude.{entries_legal, owing_of, same_id_at, IsLegalNow, Move, IsLawful, issued, IsUnderway}
use Rattle.op_laws.proofs.Prelude.{add_zero, sym}
use Rattle.op_flags.specs.ledger_types.declared.asset.Asset.TheVariants as asset
use Rattle.op_laws.proofs.Issued.{issued_after}
use Rattle.op_laws.proofs.Lawful.{terms_kept, none_drawn, covered_as, lumens_described_by, sound_after}
use Rattle.op_laws.proofs.Described.{Describes, described_by, describes_nothing, describes_both}

-- settled entries, whose amounts these moves changed: each holder's, and all together
pub record IsPart (id_pool base : ℕ) (old new : EntryMap) (moves : List Move) : Type 0 where
  pub more : Increase
  pub legal : AreEntriesLegal id_pool new
  pub left : Leaves base more old new
  pub describes : Describes more moves
  pub supply : (x : Asset) → total (held x) new ≡ (total (held x) old +ℤ issued x moves)

pub still_part : (id_pool base : ℕ) (old new : EntryMap) → AreEntriesLegal id_pool new → Leaves base none_more old new
    → ((x : Asset) → total (held x) new ≡ total (held x) old) → IsPart id_pool base old new []
unfolding issued
still_part id_pool base old new legal left same = record {
  more = none_more;
  legal = legal;
  left = left;
  describes = describes_nothing;
  supply = λ x. same x ∙ sym (add_zero (total (held x) old));
}

pub no_part : (id_pool base : ℕ) (m : EntryMap) → AreEntriesLegal id_pool m → IsPart id_pool base m m []
no_part id_pool base m legal = still_part id_pool base m m legal (leaves_itself base m legal.keyed) (λ x. refl)

in_a_row : (a b c x y z : ℤ) → b ≡ (a +ℤ x) → c ≡ (b +ℤ y) → z ≡ (x +ℤ y) → c ≡ (a +ℤ z)
in_a_row a b c x y z first second both = omega (arith, ints)

pub both_parts : (id_pool base : ℕ) (a b c : EntryMap) (moves more : List Move) → IsPart id_pool base a b moves
    → IsPart id_pool base b c more → IsPart id_pool base a c (moves ++ more)
both_parts id_pool base a b c moves more first second = record {
  more = both_more first.more second.more;
  legal = second.legal;
  left = leaves_both base first.more second.more a b c first.left second.left;
  describes = describes_both first.more second.more moves more first.describes second.describes;
  supply = λ x. in_a_row (total (held x) a) (total (held x) b) (total (held x) c) (issued x moves) (issued x more)
      (issued x (moves ++ more)) (first.supply x) (second.supply x) (issued_after x moves more);
}

pub lawful_part : (ctx : Ctx) (m : EntryMap) → IsUnderway ctx m → (result : OperationResult) (new : EntryMap)
    (moves : List Move) → IsPart ctx.id_pool ctx.base_reserve m new moves
    → IsLawful ctx m (record { result = result; entries = new; ctx = ctx; moves = moves })
lawful_part ctx m under result new moves part =
    let described = described_by part.more m new moves part.left.holds part.describes in
    record {
      legal = record {
        settled = record { legal = part.legal };
        sponsorships = sound_after ctx m under part.more new part.left.exist;
        seq = under.seq;
      };
      terms = terms_kept ctx;
      ids = none_drawn 1 ctx.id_pool ctx.id_pool refl;
      lumens = lumens_described_by m new moves under.settled.legal.keyed part.legal.keyed described;
      described = described;
      supply = part.supply;
      reserves = λ id a exists. covered_as ctx m id a (same_id_at new id a part.legal.keyed exists)
          ((part.left.each id).covered a exists);
    }

-- nothing moves, and the entries stay legal with the pools that exist then
pub lawful_now : (ctx : Ctx) (m : EntryMap) → IsUnderway ctx m → (result : OperationResult) (new : EntryMap)
    → ((v : View) (sum : ℤ) → IsLegalOwing v ctx.id_pool nothing_owed sum m → IsLegalNow v ctx.id_pool sum new)
    → Leaves ctx.base_reserve none_more m new
    → IsLawful ctx m (record { result = result; entries = new; ctx = ctx; moves = [] })
lawful_now ctx m under result new legal left =
    let was = under.settled.legal in
    lawful_part ctx m under result new [] (still_part ctx.id_pool ctx.base_reserve m new
    (entries_legal (view new) ctx.id_pool (total (held asset.Native) m) new
    (legal (view m) (total (held asset.Native) m) was)) left
    (λ x. (legal (view_of x m) (total (held x) m) (owing_of x ctx.id_pool m was)).supply))
