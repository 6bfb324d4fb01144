-- What holds of a record that isn't refused for what it is.
use Rattle.close_laws.proofs.Prelude as prelude
use prelude.{◌≡◌, ℕ, zero, suc, ◌+◌, ◌<◌, ◌≤◌, refl, sym, ap, ◌∙◌, Bool, true, false, cond, List, [], ◌∷◌, length}
use prelude.{map, get_or}
use prelude.{All, Option, Some, None, arith, ◌||◌, nat_le, slice_get, find, range_with_len, option_or, LedgerHeader}
use prelude.{LedgerUpgrade, CloseRecord, upgrade_in, type_of, is_bad_value, is_bad_after, type_before, is_bad_at}
use prelude.{is_out_of_profile, first_index, ClosingState, record_fault, term_fault, upgrade_fault, set_fault}
use prelude.{less_from_unequal, natural_positive_from_unequal, natural_zero_add, leb-false, ltb-false}
use Rattle.std.proofs.Common.{option_map}
use Rattle.std.proofs.lemmas.Bool.{eqb-true}
use Rattle.std.proofs.lemmas.Option.{slice_get-get_or}
use Rattle.std.specs.Prelude.{nat_eq, not}
use Rattle.close_rules.specs.Refusals.{term_tests}
use Rattle.close_rules.specs.entry_slots.Tests.{Tests, first_fault}
use Rattle.op_form.proofs.Steps.{AllPass}
use Rattle.close_rules.specs.ledger_types.declared.header.LedgerUpgrade.TheVariants as upgrade
use Rattle.close_rules.proofs.ledger_types_proofs.Booleans.{if_some_none}

-- ---- tests that find nothing

neither : {X : Type 0} (a b : Option X) → option_or a b ≡ None → (a ≡ None) × (b ≡ None)
neither None b e = (refl, e)
neither (Some x) b e = absurd (cc)

none_mapped : {X Y : Type 0} (f : X → Y) (a : Option X) → option_map f a ≡ None → a ≡ None
none_mapped f None e = refl
none_mapped f (Some x) e = absurd (cc)

-- ---- the parts of a record

pub terms_pass : (s : ClosingState) (closing : CloseRecord) → record_fault s closing ≡ None
    → term_fault s closing ≡ None
unfolding record_fault
terms_pass s closing none = (neither _ _ none).0

pub upgrades_pass : (s : ClosingState) (closing : CloseRecord) → record_fault s closing ≡ None
    → upgrade_fault s closing ≡ None
unfolding record_fault
upgrades_pass s closing none = (neither _ _ (neither _ _ none).1).0

pub set_passes : (s : ClosingState) (closing : CloseRecord) → record_fault s closing ≡ None
    → set_fault s closing ≡ None
unfolding record_fault
set_passes s closing none = (neither _ _ (neither _ _ none).1).1

-- ---- its number

-- a ledger can close above the header's
pub seq_below : (s : ClosingState) (closing : CloseRecord) → record_fault s closing ≡ None
    → s.header.ledger_seq ≤ 2147483647 → s.header.ledger_seq < 2147483647
unfolding term_fault
seq_below s closing none le =
    less_from_unequal s.header.ledger_seq 2147483647 le (if_some_none _ _ _ (terms_pass s closing none)).0

-- ---- its close time

all_pass : {F : Type 0} (tests : Tests F) → first_fault tests ≡ None → AllPass tests
all_pass [] none = tt
all_pass (test ∷ others) none =
    let both = if_some_none test.0 test.1 (first_fault others) none in (both.0, all_pass others both.1)

-- the ledger closes after the one before
pub later_time : (s : ClosingState) (closing : CloseRecord) → record_fault s closing ≡ None
    → s.header.scp_value.close_time ≤ closing.scp_value.close_time
unfolding term_fault
later_time s closing none =
    let later = leb-false closing.scp_value.close_time s.header.scp_value.close_time
    (all_pass (term_tests s closing) (terms_pass s closing none)).1.1.1.1.0 in
    omega (arith, later)

-- ---- its upgrades

-- an upgrade that is made, of a value that its field may have
abbrev pub IsGood : LedgerUpgrade → Type 0
IsGood (upgrade.Version n) = n ≡ 19
IsGood (upgrade.BaseFee n) = 1 ≤ n
IsGood (upgrade.MaxTxSetSize n) = Unit {0}
IsGood (upgrade.BaseReserve n) = 1 ≤ n
IsGood (upgrade.Flags n) = n ≤ 7

abbrev pub IsGoodRead : Option LedgerUpgrade → Type 0
IsGoodRead None = ⊥
IsGoodRead (Some asked) = IsGood asked

found_not : (b : Bool) (x : ℕ) (rest : Option ℕ) → cond b (Some x) rest ≡ None → (b ≡ false) × (rest ≡ None)
found_not true x rest e = absurd (cc)
found_not false x rest e = (refl, e)

from_here : (a : ℕ) → a ≡ a + 0
from_here a = omega arith

one_on : (a i : ℕ) → (a + 1) + i ≡ a + suc i
one_on a i = omega arith

nowhere : (p : ℕ → Bool) (a n i : ℕ) → find p (range_with_len a n) ≡ None → i < n → p (a + i) ≡ false
nowhere p a zero i e within = absurd (omega arith)
nowhere p a (suc n) zero e within = ap p (sym (from_here a)) ∙ (found_not (p a) a _ e).0
nowhere p a (suc n) (suc i) e within =
    ap p (sym (one_on a i)) ∙ nowhere p (a + 1) n i (found_not (p a) a _ e).1 (let h = within in omega (arith, h))

no_index : {X : Type 0} (p : ℕ → Bool) (xs : List X) (i : ℕ) → first_index p xs ≡ None → i < length xs → p i ≡ false
no_index p xs i e within = ap p (sym (natural_zero_add i)) ∙ nowhere p 0 (length xs) i e within

pub either_false : (a b : Bool) → (a || b) ≡ false → b ≡ false
either_false true b e = absurd (cc)
either_false false b e = e

not_false : (b : Bool) → not b ≡ false → b ≡ true
not_false true e = refl
not_false false e = absurd (cc)

good_value : (header : LedgerHeader) (asked : LedgerUpgrade) → is_bad_value asked ≡ false
    → is_out_of_profile header (Some (Some asked)) ≡ false → IsGood asked
good_value header (upgrade.Version n) value made =
    eqb-true n 19 (not_false (nat_eq n 19)
    (either_false (not (nat_eq header.ledger_version 18)) (not (nat_eq n 19)) made))
good_value header (upgrade.BaseFee n) value made = natural_positive_from_unequal n value
good_value header (upgrade.MaxTxSetSize n) value made = tt
good_value header (upgrade.BaseReserve n) value made = natural_positive_from_unequal n value
good_value header (upgrade.Flags n) value made = ltb-false 7 n value

good_read : (header : LedgerHeader) (before : ℕ) (asked : Option LedgerUpgrade)
    → is_bad_after before (Some asked) ≡ false → is_out_of_profile header (Some asked) ≡ false → IsGoodRead asked
good_read header before None bad made = cc
good_read header before (Some asked) bad made =
    good_value header asked (either_false (nat_le (type_of asked) before) (is_bad_value asked) bad) made

good_at : (header : LedgerHeader) (asked : List (Option LedgerUpgrade))
    → first_index (is_bad_at asked) asked ≡ None
    → first_index (λ i. is_out_of_profile header (slice_get asked i)) asked ≡ None → All IsGoodRead asked
good_at header asked bad made = λ k d within.
    let there = slice_get-get_or asked k d within in
    good_read header (type_before asked k) (get_or asked k d)
    (ap (is_bad_after (type_before asked k)) (sym there) ∙ no_index (is_bad_at asked) asked k bad within)
    (ap (is_out_of_profile header) (sym there)
    ∙ no_index (λ i. is_out_of_profile header (slice_get asked i)) asked k made within)

pub upgrades_good : (s : ClosingState) (closing : CloseRecord) → record_fault s closing ≡ None
    → All IsGoodRead (map upgrade_in closing.scp_value.upgrades)
unfolding upgrade_fault
upgrades_good s closing none =
    let both = neither _ _ (upgrades_pass s closing none) in
    good_at s.header (map upgrade_in closing.scp_value.upgrades) (none_mapped _ _ both.0) (none_mapped _ _ both.1)
