-- What a new claimable balance is: in its ranges, under a key where nothing exists.
use Rattle.op_laws.proofs.Prelude as prelude
use prelude.{◌≡◌, ◌≢◌, refl, sym, ap, subst, ◌∙◌, ℕ, zero, suc, ◌≤◌, Bool, true, false, not, ◌&&◌, ◌||◌, List, [], ◌∷◌}
use prelude.{map, length, Option, Some, None, arith, ints, length-map, All-nil, All-cons, ℤ, pos, int_lt, int_le, ◌+ℤ◌}
use prelude.{◌≤ℤ◌, if◌then◌else◌, AllPairs, ClaimableBalanceId, ClaimableBalanceEntry, LedgerEntry, EntryMap}
use prelude.{balance_at, greatest_i64, is_same_account, is_itself, AreClaimantsInRange, fixed_level, fixed_below}
use prelude.{fixed_claimant, time_after, natural_add_nonnegative, not-false, or_parts, IsEntryOf, balances_exact}
use prelude.{entry_found}
use Rattle.std.proofs.lemmas.List.Kept.{AllPairs-cons}
use Rattle.std.specs.Prelude.{All}
use Rattle.op_flags.specs.ledger_types.declared.claimable_balance.Claimant.{Claimant}
use Rattle.op_flags.specs.ledger_types.declared.predicate.ClaimPredicate.{ClaimPredicate}
use Rattle.op_flags.specs.ledger_types.declared.predicate.ClaimPredicate.TheViews.{out-ClaimPredicate}
use Rattle.op_flags.specs.ledger_types.declared.predicate.ClaimPredicate.TheViews.{out-roll-ClaimPredicate}
use Rattle.op_flags.specs.ledger_types.declared.predicate.ClaimPredicate.TheOpen.{ClaimPredicate-F}
use Rattle.op_flags.specs.ledger_types.declared.key.LedgerKey.TheVariants as key
use Rattle.op_flags.specs.valid_values.Predicates.{is_valid_below, is_valid_level, is_valid_predicate}
use Rattle.op_flags.specs.valid_values.Predicates.{is_valid_stored_predicate}
use Rattle.op_claim.specs.CreateClaimableBalance as spec
use Rattle.op_flags.specs.entry_slots.Balances.{balance_kind}

-- ---- predicates

not_negative : (a b : ℤ) → pos 0 ≤ℤ a → pos 0 ≤ℤ b → (t : Bool) → pos 0 ≤ℤ (if t then a else b)
not_negative a b low also true = low
not_negative a b low also false = also

time_low : (t : ℕ) (s : ℤ) → int_le (pos 0) s ≡ true → int_le (pos 0) (time_after t s) ≡ true
time_low t s h =
    let low : pos 0 ≤ℤ s = grind (arith, ints) in
    let after : pos 0 ≤ℤ time_after t s =
    not_negative (pos t +ℤ s) greatest_i64 (natural_add_nonnegative t s low) (omega (arith, ints))
    (int_lt (pos t +ℤ s) greatest_i64) in
    at_least (time_after t s) after
  where
    at_least : (n : ℤ) → pos 0 ≤ℤ n → int_le (pos 0) n ≡ true
    at_least n le = grind (arith, ints)

and_of : (a b c d : Bool) → (a ≡ true → c ≡ true) → (b ≡ true → d ≡ true) → (a && b) ≡ true → (c && d) ≡ true
and_of true true c d first second h = both c d (first refl) (second refl)
  where
    both : (c d : Bool) → c ≡ true → d ≡ true → (c && d) ≡ true
    both true true is also = refl
    both true false is also = absurd (cc)
    both false d is also = absurd (cc)
and_of true false c d first second h = absurd (cc)
and_of false b c d first second h = absurd (cc)

module _ (t levels : ℕ) (below : (p : ClaimPredicate) → is_valid_below true levels p ≡ true
    → is_valid_below false levels (fixed_below t levels p) ≡ true) where
  abbrev IsKept : ClaimPredicate-F ClaimPredicate → Type 0
  IsKept x = is_valid_level true (is_valid_below true levels) x ≡ true
      → is_valid_level false (is_valid_below false levels) (fixed_level t (fixed_below t levels) x) ≡ true

  both_kept : (parts : List ClaimPredicate) → IsKept (ClaimPredicate-F.And parts)
  both_kept [] h = absurd (cc)
  both_kept (a ∷ []) h = absurd (cc)
  both_kept (a ∷ b ∷ []) h =
      and_of (is_valid_below true levels a) (is_valid_below true levels b) _ _ (below a) (below b) h
  both_kept (a ∷ b ∷ c ∷ ps) h = absurd (cc)

  either_kept : (parts : List ClaimPredicate) → IsKept (ClaimPredicate-F.Or parts)
  either_kept [] h = absurd (cc)
  either_kept (a ∷ []) h = absurd (cc)
  either_kept (a ∷ b ∷ []) h =
      and_of (is_valid_below true levels a) (is_valid_below true levels b) _ _ (below a) (below b) h
  either_kept (a ∷ b ∷ c ∷ ps) h = absurd (cc)

  part_kept : (part : Option ClaimPredicate) → IsKept (ClaimPredicate-F.Not part)
  part_kept None h = absurd (cc)
  part_kept (Some p) h = below p h

  level_kept : (x : ClaimPredicate-F ClaimPredicate) → IsKept x
  level_kept ClaimPredicate-F.Unconditional h = refl
  level_kept (ClaimPredicate-F.And parts) h = both_kept parts h
  level_kept (ClaimPredicate-F.Or parts) h = either_kept parts h
  level_kept (ClaimPredicate-F.Not part) h = part_kept part h
  level_kept (ClaimPredicate-F.BeforeAbsoluteTime time) h = h
  level_kept (ClaimPredicate-F.BeforeRelativeTime seconds) h = time_low t seconds h

fixed_valid : (t levels : ℕ) (p : ClaimPredicate) → is_valid_below true levels p ≡ true
    → is_valid_below false levels (fixed_below t levels p) ≡ true
unfolding is_valid_below fixed_below
fixed_valid t zero p h = absurd (cc)
fixed_valid t (suc levels) p h =
    ap (is_valid_level false (is_valid_below false levels))
    (out-roll-ClaimPredicate (fixed_level t (fixed_below t levels) (out-ClaimPredicate p)))
    ∙ level_kept t levels (fixed_valid t levels) (out-ClaimPredicate p) h

-- ---- claimants

apart_from : (t : ℕ) (c : Claimant) (cs : List Claimant) → spec.has_destination cs c ≡ false
    → All (λ (other : Claimant). c.destination ≢ other.destination) (map (fixed_claimant t) cs)
apart_from t c [] h = All-nil (λ (other : Claimant). c.destination ≢ other.destination)
apart_from t c (d ∷ ds) h =
    let both = or_parts (is_same_account c.destination d.destination) (spec.has_destination ds c) h in
    All-cons (λ (other : Claimant). c.destination ≢ other.destination) (fixed_claimant t d) (map (fixed_claimant t) ds)
    (λ same. let own = ap (is_same_account c.destination) (sym same) ∙ is_itself c.destination in
    let first = both.0 in absurd (cc)) (apart_from t c ds both.1)

abbrev AreApart : Claimant → Claimant → Type 0
AreApart x y = x.destination ≢ y.destination

all_apart : (t : ℕ) (cs : List Claimant) → spec.has_twice cs ≡ false → AllPairs AreApart (map (fixed_claimant t) cs)
unfolding spec.has_twice
all_apart t [] h = λ i j d lt le. absurd (omega arith)
all_apart t (c ∷ cs) h =
    let both = or_parts (spec.has_destination cs c) (spec.has_twice cs) h in
    AllPairs-cons AreApart (fixed_claimant t c) (map (fixed_claimant t) cs) (apart_from t c cs both.0)
    (all_apart t cs both.1)

all_valid : (t : ℕ) (cs : List Claimant) → spec.are_predicates_valid cs ≡ true
    → All (λ (c : Claimant). is_valid_stored_predicate c.predicate ≡ true) (map (fixed_claimant t) cs)
all_valid t [] h = All-nil (λ (c : Claimant). is_valid_stored_predicate c.predicate ≡ true)
all_valid t (c ∷ cs) h =
    let both = split (is_valid_predicate c.predicate) (spec.are_predicates_valid cs) h in
    All-cons (λ (x : Claimant). is_valid_stored_predicate x.predicate ≡ true) (fixed_claimant t c)
    (map (fixed_claimant t) cs) (fixed_valid t 4 c.predicate both.0) (all_valid t cs both.1)
  where
    split : (a b : Bool) → (a && b) ≡ true → (a ≡ true) × (b ≡ true)
    split true true is = (refl, refl)
    split true false is = absurd (cc)
    split false b is = absurd (cc)

some_of : (cs : List Claimant) → spec.is_empty cs ≡ false → 1 ≤ length cs
some_of [] h = absurd (cc)
some_of (c ∷ cs) h = omega arith

pub claimants_in_range : (t : ℕ) (cs : List Claimant) → spec.are_claimants_bad cs ≡ false → length cs ≤ 10
    → AreClaimantsInRange (map (fixed_claimant t) cs)
claimants_in_range t cs h few =
    let valid = not (spec.are_predicates_valid cs) in
    let last = or_parts (spec.is_empty cs || spec.has_twice cs) valid h in
    let first = or_parts (spec.is_empty cs) (spec.has_twice cs) last.0 in
    let some = some_of cs first.0 in
    let same = length-map cs (fixed_claimant t) in
    record {
      some = subst (λ n. 1 ≤ n) (sym same) some;
      few = subst (λ n. n ≤ 10) (sym same) few;
      apart = all_apart t cs first.1;
      predicates = all_valid t cs (not-false (spec.are_predicates_valid cs) last.1);
    }

-- ---- a balance that exists

abbrev pub IsBalanceEntry : EntryMap → ClaimableBalanceId → ClaimableBalanceEntry → LedgerEntry → Type 0
IsBalanceEntry m id b e = IsEntryOf balance_kind m (key.ClaimableBalance id) b e

pub balance_entry : (m : EntryMap) (id : ClaimableBalanceId) (x : ClaimableBalanceEntry) → balance_at m id ≡ Some x
    → (e : LedgerEntry) × IsBalanceEntry m id x e
unfolding balance_at
balance_entry m id x h = entry_found balances_exact m (key.ClaimableBalance id) x h
