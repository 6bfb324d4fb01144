-- Fees that are taken: what they leave, and which are left.
use Rattle.tx_apply.proofs.Prelude as prelude
use prelude.{◌≡◌, ◌≢◌, ℕ, suc, ◌+◌, ◌<◌, ◌≤◌, ℤ, pos, negsuc, neg_ℤ, ◌+ℤ◌, ◌-ℤ◌, ◌≤ℤ◌, Bool, true, false, ◌&&◌}
use prelude.{if◌then◌else◌, List, [], ◌∷◌, ◌++◌, length, get_or, drop, min, unsigned_abs, Option, Some, None, refl, sym}
use prelude.{ap, subst, ◌∙◌, append_assoc, arith, ints, append-nil, drop_all, is_eq, AccountId, AccountEntry}
use prelude.{LedgerHeader, TransactionEnvelope, EntryMap, Undo, with_current, account_at, total, fee_source_of}
use prelude.{not_below_0, fee_charged, greatest_i64, paid, with_paid, Holder, OfAccount, FeePool, Move, is_holder}
use prelude.{gained, holding, is_issuer, location_of, AreDescribed, TransactionLaws, IsSettled, more_at, described_at}
use prelude.{described_itself, gained_twice, account_location, end_describes, holding_with, AreAllDescribed}
use prelude.{FeesConserve, envelopes_at, add_assoc, add_nonnegative, add_zero, natural_nonnegative}
use Rattle.ledger_types.specs.KeyOrder.{asset_cmp}
use Rattle.op_laws.specs.legal_rules.Holdings.{none_more, for_one, HoldsMore}
use Rattle.ledger_types.specs.declared.asset.Asset.{Asset}
use Rattle.ledger_types.specs.declared.asset.Asset.TheVariants as asset
use Rattle.op_laws.specs.legal_rules.Supply.{held, lumens_of, lumens_in}
use Rattle.op_laws.proofs.legal_rules_proofs.Holdings.{no_lumens_more, account_holds, holds_itself, holds_as}
use Rattle.tx_apply.specs.Fees.{fee_of, map_after_fee, fee_move, FeesTaken, after_fee, fees_taken, sum_of}
use Rattle.tx_apply.proofs.Placed.{first_left}
use Rattle.op_laws.proofs.legal_rules_proofs.Leaving.{no_account_changed}

-- ---- one fee

nothing_paid : (m : EntryMap) (id : AccountId) (delta : ℤ) → account_at m id ≡ None → with_paid id delta m ≡ m
nothing_paid m id delta e = no_account_changed m id (paid delta) e

-- the least of some numbers is at most the first
min_low : (a b : ℕ) → min a b ≤ a
min_low a b = grind (arith)

not_above : (balance : ℤ) → pos 0 ≤ℤ balance → pos (not_below_0 balance) ≡ balance
not_above (pos n) h = refl
not_above (negsuc n) h = absurd (grind (arith, ints))

most : (balance : ℤ) (n : ℕ) → pos 0 ≤ℤ balance → n ≤ not_below_0 balance → pos n ≤ℤ balance
most balance n low h =
    let same : pos (not_below_0 balance) ≡ balance = not_above balance low in
    subst (λ (b : ℤ). pos n ≤ℤ b) same (grind (arith, ints, h))

-- a fee leaves settled entries, of which it takes so many lumens from an account and nothing else
pub record Keeps (id_pool : ℕ) (id : AccountId) (m after : EntryMap) (fee : ℤ) : Type 0 where
  pub settled : IsSettled id_pool after
  pub lumens : total (held asset.Native) after ≡ total (held asset.Native) m +ℤ neg_ℤ fee
  pub others : (x : Asset) → x ≢ asset.Native → total (held x) after ≡ total (held x) m
  pub holds : HoldsMore (for_one id (neg_ℤ fee)) m after

no_fee : (x : ℤ) → x ≡ x +ℤ neg_ℤ (pos 0)
no_fee x = grind (arith, ints)

no_lumens : (x : Asset) (n : ℤ) → x ≢ asset.Native → lumens_of x n ≡ pos 0
no_lumens asset.Native n apart = absurd (apart refl)
no_lumens (asset.Alphanum4 code issuer) n apart = refl
no_lumens (asset.Alphanum12 code issuer) n apart = refl

least_of_none : (n : ℕ) → pos (min 0 n) ≡ pos 0
least_of_none n = ap (λ (k : ℕ). pos k) (none n)
  where
    none : (n : ℕ) → min 0 n ≡ 0
    none n = grind (arith)

keeps_by : TransactionLaws → (id_pool base : ℕ) (envelope : TransactionEnvelope) (m : EntryMap)
    (source : Option AccountEntry) → IsSettled id_pool m → account_at m (fee_source_of envelope) ≡ source
    → Keeps id_pool (fee_source_of envelope) m
    (with_paid (fee_source_of envelope) (neg_ℤ (pos (fee_charged base envelope (lumens_in source)))) m)
    (pos (fee_charged base envelope (lumens_in source)))
keeps_by laws id_pool base envelope m None settled e =
    let same = nothing_paid m (fee_source_of envelope) (neg_ℤ (pos (fee_charged base envelope (pos 0)))) e in
    let nothing : pos (fee_charged base envelope (pos 0)) ≡ pos 0 = least_of_none _ in
    record {
      settled = subst (IsSettled id_pool) (sym same) settled;
      lumens = ap (total (held asset.Native)) same ∙ no_fee (total (held asset.Native) m)
          ∙ ap (λ (c : ℤ). total (held asset.Native) m +ℤ neg_ℤ c) (sym nothing);
      others = λ x apart. ap (total (held x)) same;
      holds = subst (λ n. HoldsMore (for_one (fee_source_of envelope) (neg_ℤ (pos (fee_charged base envelope (pos 0)))))
          m n) (sym same)
          (subst (λ (c : ℤ). HoldsMore (for_one (fee_source_of envelope) (neg_ℤ c)) m m) (sym nothing)
          (holds_as none_more (for_one (fee_source_of envelope) (pos 0)) m m (holds_itself m)
          (λ k x. sym (no_lumens_more (fee_source_of envelope) k x))));
    }
keeps_by laws id_pool base envelope m (Some a) settled e =
    let fee = fee_charged base envelope a.balance in
    let range = (laws.accounts id_pool m (fee_source_of envelope) a settled e).range in
    let both =
    laws.fees id_pool m (fee_source_of envelope) a (pos fee) settled e (natural_nonnegative fee)
    (most a.balance fee range.balance
    (min_low (not_below_0 a.balance) _)) in
    record {
      settled = both.0;
      lumens = both.1 asset.Native;
      others = λ x apart. both.1 x ∙ ap (λ (n : ℤ). total (held x) m +ℤ n) (no_lumens x (neg_ℤ (pos fee)) apart)
          ∙ add_zero (total (held x) m);
      holds = account_holds m settled.legal.keyed (fee_source_of envelope) (paid (neg_ℤ (pos fee))) a e
          (neg_ℤ (pos fee)) refl refl;
    }

pub keeps : TransactionLaws → (id_pool base : ℕ) (envelope : TransactionEnvelope) (m : EntryMap) → IsSettled id_pool m
    → Keeps id_pool (fee_source_of envelope) m (map_after_fee base envelope m) (fee_of base envelope m)
keeps laws id_pool base envelope m settled =
    keeps_by laws id_pool base envelope m (account_at m (fee_source_of envelope)) settled refl

given_back : (after m fee : ℤ) → after ≡ m +ℤ neg_ℤ fee → after +ℤ fee ≡ m
given_back after m fee is = grind (arith, ints, is)

-- ---- what the move of a fee says

taken_alone : (t f : Bool) (n : ℤ) → t ≡ false
    → (if f then neg_ℤ n else pos 0) ≡ (((if t then n else pos 0) -ℤ (if f then n else pos 0)) +ℤ pos 0)
taken_alone true f n not_here = absurd (cc)
taken_alone false true n not_here = omega (arith, ints)
taken_alone false false n not_here = refl

-- of all but the lumens of the fee pool
fee_describes : (entire : TransactionEnvelope) (fee : ℤ) (x : Asset) (holder : Holder) → is_issuer x holder ≡ false
    → (is_eq (asset_cmp x asset.Native) && is_holder holder FeePool) ≡ false
    → more_at (for_one (fee_source_of entire) (neg_ℤ fee)) x (location_of x holder)
    ≡ gained x holder (fee_move entire fee ∷ [])
unfolding gained
fee_describes entire fee x holder other not_pool =
    let id = fee_source_of entire in
    let same = is_eq (asset_cmp x asset.Native) in
    end_describes x asset.Native holder (OfAccount id) (account_location asset.Native id) (neg_ℤ fee) other
    ∙ taken_alone (same && is_holder holder FeePool) (same && is_holder holder (OfAccount id)) fee not_pool

pool_gains : (entire : TransactionEnvelope) (pool fee : ℤ)
    → (pool +ℤ fee) ≡ (pool +ℤ gained asset.Native FeePool (fee_move entire fee ∷ []))
unfolding gained
pool_gains entire pool fee = ap (λ (n : ℤ). pool +ℤ n) (alone fee)
  where
    alone : (n : ℤ) → n ≡ ((n -ℤ pos 0) +ℤ pos 0)
    alone n = omega (arith, ints)

fee_described : (entire : TransactionEnvelope) (m after : EntryMap) (fee : ℤ)
    → HoldsMore (for_one (fee_source_of entire) (neg_ℤ fee)) m after → (pool : ℤ)
    → AreAllDescribed pool m (pool +ℤ fee) after (fee_move entire fee ∷ [])
fee_described entire m after fee holds pool asset.Native FeePool other = pool_gains entire pool fee
fee_described entire m after fee holds pool x holder other =
    described_at (for_one (fee_source_of entire) (neg_ℤ fee)) m after holds x (location_of x holder)
    ∙ ap (λ (n : ℤ). holding x holder m +ℤ n) (fee_describes entire fee x holder other refl)

pub fees_conserve : TransactionLaws → FeesConserve
fees_conserve laws id_pool base envelope m settled =
    let kept = keeps laws id_pool base envelope m settled in
    record {
      settled = kept.settled;
      lumens = given_back _ _ _ kept.lumens;
      others = kept.others;
      described = fee_described envelope m (map_after_fee base envelope m) (fee_of base envelope m) kept.holds;
    }

-- ---- all fees

pool_still : (n : ℤ) (pool : ℤ) → pos 0 ≡ (pos 0 +ℤ n) → pool ≡ (pool +ℤ n)
pool_still n pool none = omega (arith, ints)

-- moves that say nothing of the fee pool leave it
pub described_all : (pool : ℤ) (old new : EntryMap) (moves : List Move) → AreDescribed old new moves
    → AreAllDescribed pool old pool new moves
described_all pool old new moves described asset.Native FeePool other =
    pool_still (gained asset.Native FeePool moves) pool (described asset.Native FeePool other)
described_all pool old new moves described x holder other = described x holder other

-- one after the other
pub all_described_twice : (p : ℤ) (a : EntryMap) (q : ℤ) (b : EntryMap) (r : ℤ) (c : EntryMap) (moves more : List Move)
    → AreAllDescribed p a q b moves → AreAllDescribed q b r c more → AreAllDescribed p a r c (moves ++ more)
all_described_twice p a q b r c moves more first next x holder other =
    gained_twice x holder moves more (holding_with p x holder a) (holding_with q x holder b) (holding_with r x holder c)
    (first x holder other) (next x holder other)

pub record AreTaken (id_pool : ℕ) (m : EntryMap) (done : FeesTaken) : Type 0 where
  pub settled : IsSettled id_pool done.entries
  pub lumens : (total (held asset.Native) done.entries +ℤ sum_of done.fees) ≡ total (held asset.Native) m
  pub others : (x : Asset) → x ≢ asset.Native → total (held x) done.entries ≡ total (held x) m
  pub described : (pool : ℤ) → AreAllDescribed pool m (pool +ℤ sum_of done.fees) done.entries done.moves

sum_up : (last sum fee between first : ℤ) → last +ℤ sum ≡ between → between ≡ first +ℤ neg_ℤ fee
    → last +ℤ (fee +ℤ sum) ≡ first
sum_up last sum fee between first e h = omega (arith, ints)

pub all_taken : TransactionLaws → (id_pool base : ℕ) (envelopes : List TransactionEnvelope) (m : EntryMap)
    → IsSettled id_pool m → AreTaken id_pool m (fees_taken base envelopes m)
unfolding fees_taken sum_of
all_taken laws id_pool base [] m settled = record {
  settled = settled;
  lumens = add_zero (total (held asset.Native) m);
  others = λ x apart. refl;
  described = λ pool. subst (λ (n : ℤ). AreAllDescribed pool m n m []) (sym (add_zero pool))
      (described_all pool m m [] (described_itself m));
}
all_taken laws id_pool base (envelope ∷ envelopes) m settled =
    let kept = keeps laws id_pool base envelope m settled in
    let rest = all_taken laws id_pool base envelopes (map_after_fee base envelope m) kept.settled in
    record {
      settled = rest.settled;
      lumens = sum_up _ _ (fee_of base envelope m) _ _ rest.lumens kept.lumens;
      others = λ x apart. rest.others x apart ∙ kept.others x apart;
      described = λ pool.
          let fee = fee_of base envelope m in
          let between = map_after_fee base envelope m in
          let after = fees_taken base envelopes between in
          let last = fee_move envelope fee ∷ after.moves in
          subst (λ (n : ℤ). AreAllDescribed pool m n after.entries last) (add_assoc pool fee (sum_of after.fees))
          (all_described_twice pool m (pool +ℤ fee) between ((pool +ℤ fee) +ℤ sum_of after.fees) after.entries
          (fee_move envelope fee ∷ []) after.moves (fee_described envelope m between fee kept.holds pool)
          (rest.described (pool +ℤ fee)));
    }

-- as many as there are envelopes
pub as_many_fees : (base : ℕ) (envelopes : List TransactionEnvelope) (m : EntryMap)
    → length (fees_taken base envelopes m).fees ≡ length envelopes
unfolding fees_taken
as_many_fees base [] m = refl
as_many_fees base (envelope ∷ envelopes) m = ap suc
    (as_many_fees base envelopes (map_after_fee base envelope m))

-- ---- the fees that are left

-- so far: the fees that were taken and those that are left make up all of them, and so do the entries and the fee pool
pub record SoFar (base : ℕ) (header : LedgerHeader) (envelopes : List TransactionEnvelope) (order : List ℕ)
    (first taken : List ℤ) (old now : Undo) (pool : ℤ) (i : ℕ) : Type 0 where
  pub fees : taken ++ (fees_taken base (envelopes_at envelopes (drop i order)) now.current).fees
      ≡ first ++ (fees_taken base (envelopes_at envelopes order) old.current).fees
  pub entries : (fees_taken base (envelopes_at envelopes (drop i order)) now.current).entries
      ≡ (fees_taken base (envelopes_at envelopes order) old.current).entries
  pub undo : now ≡ with_current old now.current
  pub fee_pool : pool
      +ℤ sum_of (fees_taken base (envelopes_at envelopes (drop i order)) now.current).fees
      ≡ header.fee_pool +ℤ sum_of (fees_taken base (envelopes_at envelopes order) old.current).fees
  pub settled : IsSettled header.id_pool now.current
  pub lumens : (total (held asset.Native) now.current +ℤ pool) ≡ header.total_coins
  pub low : pos 0 ≤ℤ pool

later : (base : ℕ) (envelope : TransactionEnvelope) (left : List TransactionEnvelope) (m : EntryMap)
    → fees_taken base (envelope ∷ left) m
    ≡ after_fee envelope (fee_of base envelope m) (fees_taken base left (map_after_fee base envelope m))
unfolding fees_taken
later base envelope left m = refl

-- what is left begins with one fee
one_left : (base : ℕ) (envelopes : List TransactionEnvelope) (order : List ℕ) (i : ℕ) (envelope : TransactionEnvelope)
    (m : EntryMap) → i < length order → get_or order i 0 < length envelopes
    → envelope ≡ get_or envelopes (get_or order i 0) envelope
    → fees_taken base (envelopes_at envelopes (drop i order)) m
    ≡ after_fee envelope (fee_of base envelope m)
    (fees_taken base (envelopes_at envelopes (drop (i + 1) order)) (map_after_fee base envelope m))
one_left base envelopes order i envelope m within there e =
    ap (λ (left : List TransactionEnvelope). fees_taken base left m)
    (first_left envelopes order i envelope within there
    ∙ ap (λ (x : TransactionEnvelope). x ∷ envelopes_at envelopes (drop (i + 1) order)) (sym e))
    ∙ later base envelope (envelopes_at envelopes (drop (i + 1) order)) m

sum_more : (fee : ℤ) (fees : List ℤ) → sum_of (fee ∷ fees) ≡ fee +ℤ sum_of fees
unfolding sum_of
sum_more fee fees = refl

balanced : (before pool fee coins after : ℤ) → (before +ℤ pool) ≡ coins → after ≡ (before +ℤ neg_ℤ fee)
    → (after +ℤ (pool +ℤ fee)) ≡ coins
balanced before pool fee coins after e h = omega (arith, ints)

-- one fee more
pub step : TransactionLaws → (base : ℕ) (header : LedgerHeader) (envelopes : List TransactionEnvelope) (order : List ℕ)
    (first fees : List ℤ) (old now : Undo) (fee_pool : ℤ) (i : ℕ) (envelope : TransactionEnvelope) (after : Undo)
    → SoFar base header envelopes order first fees old now fee_pool i → i < length order
    → get_or order i 0 < length envelopes → envelope ≡ get_or envelopes (get_or order i 0) envelope
    → after ≡ with_current now (map_after_fee base envelope now.current)
    → SoFar base header envelopes order first (fees ++ fee_of base envelope now.current ∷ []) old after
    (fee_pool +ℤ fee_of base envelope now.current) (i + 1)
step laws base header envelopes order first fees old now fee_pool i envelope after so_far within there e is =
    subst (λ (u : Undo). SoFar base header envelopes order first (fees ++ fee ∷ []) old u
    (fee_pool +ℤ fee) (i + 1)) (sym is) made
  where
    fee : ℤ
    fee = fee_of base envelope now.current

    m : EntryMap
    m = map_after_fee base envelope now.current

    left : FeesTaken
    left = fees_taken base (envelopes_at envelopes (drop (i + 1) order)) m

    one : fees_taken base (envelopes_at envelopes (drop i order)) now.current ≡ after_fee envelope fee left
    one = one_left base envelopes order i envelope now.current within there e

    kept : Keeps header.id_pool (fee_source_of envelope) now.current m fee
    kept = keeps laws header.id_pool base envelope now.current so_far.settled

    made : SoFar base header envelopes order first (fees ++ fee ∷ []) old (with_current now m)
        (fee_pool +ℤ fee) (i + 1)
    made = record {
      fees = append_assoc fees (fee ∷ []) left.fees
          ∙ ap (λ (c : FeesTaken). fees ++ c.fees) (sym one) ∙ so_far.fees;
      entries = ap (λ (c : FeesTaken). c.entries) (sym one) ∙ so_far.entries;
      undo = ap (λ (u : Undo). with_current u m) so_far.undo;
      fee_pool = add_assoc fee_pool fee (sum_of left.fees)
          ∙ ap (λ (x : ℤ). fee_pool +ℤ x) (sym (sum_more fee left.fees))
          ∙ ap (λ (c : FeesTaken). fee_pool +ℤ sum_of c.fees) (sym one) ∙ so_far.fee_pool;
      settled = kept.settled;
      lumens = balanced (total (held asset.Native) now.current) fee_pool fee header.total_coins
          (total (held asset.Native) m) so_far.lumens kept.lumens;
      low = add_nonnegative fee_pool fee so_far.low (natural_nonnegative _);
    }

-- the fee pool stays within the header's total of lumens
pub within_total : TransactionLaws → (header : LedgerHeader) (m : EntryMap) (fee_pool : ℤ) → IsSettled header.id_pool m
    → (total (held asset.Native) m +ℤ fee_pool) ≡ header.total_coins → fee_pool ≤ℤ header.total_coins
within_total laws header m fee_pool settled e =
    below (total (held asset.Native) m) fee_pool header.total_coins (laws.held header.id_pool m settled) e
  where
    below : (a b c : ℤ) → pos 0 ≤ℤ a → a +ℤ b ≡ c → b ≤ℤ c
    below a b c h e = grind (arith, ints, h, e)

-- the same, by what the fee left
pub step_to : TransactionLaws → (base : ℕ) (header : LedgerHeader) (envelopes : List TransactionEnvelope)
    (order : List ℕ) (first taken : List ℤ) (old now : Undo) (pool : ℤ) (i : ℕ) (envelope : TransactionEnvelope)
    (after : Undo) (taken_after : List ℤ) (pool_after : ℤ)
    → SoFar base header envelopes order first taken old now pool i → i < length order
    → get_or order i 0 < length envelopes → envelope ≡ get_or envelopes (get_or order i 0) envelope
    → after ≡ with_current now (map_after_fee base envelope now.current)
    → taken_after ≡ taken ++ fee_of base envelope now.current ∷ []
    → pool_after ≡ pool +ℤ fee_of base envelope now.current
    → SoFar base header envelopes order first taken_after old after pool_after (i + 1)
step_to laws base header envelopes order first taken old now pool i envelope after taken_after pool_after so_far within
    there e is listed summed =
    subst (λ (cs : List ℤ). SoFar base header envelopes order first cs old after pool_after (i + 1)) (sym listed)
    (subst (λ (n : ℤ). SoFar base header envelopes order first (taken ++ fee_of base envelope now.current ∷ []) old
    after n (i + 1)) (sym summed)
    (step laws base header envelopes order first taken old now pool i envelope after so_far within there e is))

-- one fee more fits into the fee pool
pub fits_pool : TransactionLaws → (base : ℕ) (header : LedgerHeader) (envelopes : List TransactionEnvelope)
    (order : List ℕ) (first taken : List ℤ) (old now : Undo) (pool : ℤ) (i : ℕ) (envelope : TransactionEnvelope)
    (fee : ℤ) → SoFar base header envelopes order first taken old now pool i → i < length order
    → get_or order i 0 < length envelopes → envelope ≡ get_or envelopes (get_or order i 0) envelope
    → fee ≡ fee_of base envelope now.current → header.total_coins ≤ℤ greatest_i64
    → (pool +ℤ fee) ≤ℤ greatest_i64
fits_pool laws base header envelopes order first taken old now pool i envelope fee so_far within there e is top =
    let m = map_after_fee base envelope now.current in
    let next = step laws base header envelopes order first taken old now pool i envelope (with_current now m) so_far
    within there e refl in
    subst (λ (n : ℤ). (pool +ℤ n) ≤ℤ greatest_i64) (sym is)
    (below _ _ _ (within_total laws header m (pool +ℤ fee_of base envelope now.current) next.settled next.lumens)
    top)
  where
    below : (a b c : ℤ) → a ≤ℤ b → b ≤ℤ c → a ≤ℤ c
    below a b c h g = omega (arith, ints)

-- as many fees as indices
pub counted : (new first : List ℤ) (base : ℕ) (envelopes : List TransactionEnvelope) (m : EntryMap) (n : ℕ)
    → new ≡ first ++ (fees_taken base envelopes m).fees → first ≡ [] → length envelopes ≡ n → length new ≡ n
counted new first base envelopes m n is none many =
    ap length is ∙ ap (λ (cs : List ℤ). length (cs ++ (fees_taken base envelopes m).fees)) none
    ∙ as_many_fees base envelopes m ∙ many

-- nothing is left after the last index
nothing_left : (base : ℕ) (envelopes : List TransactionEnvelope) (order : List ℕ) (i : ℕ) (m : EntryMap)
    → length order ≤ i
    → fees_taken base (envelopes_at envelopes (drop i order)) m ≡ record { fees = []; moves = []; entries = m }
unfolding fees_taken envelopes_at
nothing_left base envelopes order i m past =
    ap (λ (indices : List ℕ). fees_taken base (envelopes_at envelopes indices) m) (drop_all i order past)

no_sum : (n : ℤ) → n ≡ n +ℤ sum_of []
unfolding sum_of
no_sum n = sym (add_zero n)

-- all fees are taken
pub record IsFinished (base : ℕ) (header : LedgerHeader) (envelopes : List TransactionEnvelope) (order : List ℕ)
    (first taken : List ℤ) (old now : Undo) (pool : ℤ) : Type 0 where
  pub fees : taken ≡ first ++ (fees_taken base (envelopes_at envelopes order) old.current).fees
  pub entries : now ≡ with_current old (fees_taken base (envelopes_at envelopes order) old.current).entries
  pub fee_pool : pool ≡ header.fee_pool +ℤ sum_of (fees_taken base (envelopes_at envelopes order) old.current).fees

pub finished : (base : ℕ) (header : LedgerHeader) (envelopes : List TransactionEnvelope) (order : List ℕ)
    (first taken : List ℤ) (old now : Undo) (pool : ℤ) (i : ℕ)
    → SoFar base header envelopes order first taken old now pool i → length order ≤ i
    → IsFinished base header envelopes order first taken old now pool
finished base header envelopes order first taken old now pool i so_far past =
    let none = nothing_left base envelopes order i now.current past in
    record {
      fees = sym (append-nil taken) ∙ ap (λ (c : FeesTaken). taken ++ c.fees) (sym none) ∙ so_far.fees;
      entries = so_far.undo ∙ ap (λ (m : EntryMap). with_current old m)
          (ap (λ (c : FeesTaken). c.entries) (sym none) ∙ so_far.entries);
      fee_pool = no_sum pool ∙ ap (λ (c : FeesTaken). pool +ℤ sum_of c.fees) (sym none) ∙ so_far.fee_pool;
    }

-- the same, by a fee that is stated twice
pub finished_by : (base described : ℤ) (header : LedgerHeader) (envelopes : List TransactionEnvelope) (order : List ℕ)
    (first taken : List ℤ) (old now : Undo) (pool : ℤ) (i : ℕ) → described ≡ base
    → SoFar (unsigned_abs described) header envelopes order first taken old now pool i → length order ≤ i
    → IsFinished (unsigned_abs base) header envelopes order first taken old now pool
finished_by base described header envelopes order first taken old now pool i same so_far past =
    subst (λ (b : ℤ). IsFinished (unsigned_abs b) header envelopes order first taken old now pool) same
    (finished (unsigned_abs described) header envelopes order first taken old now pool i so_far past)

-- a sum, by what its parts are equal to
pub summed : (total result pool described fee fees_taken : ℤ) → total ≡ result → result ≡ pool +ℤ described
    → described ≡ fee
    → fee ≡ fees_taken → total ≡ pool +ℤ fees_taken
summed total result pool described fee fees_taken e h g k = e ∙ h ∙ ap (λ (n : ℤ). pool +ℤ n) (g ∙ k)
