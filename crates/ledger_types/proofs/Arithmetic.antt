-- Small facts of whole numbers.
use Rattle.std.proofs.Common.{◌≡◌, refl, ap, ℕ, suc, ◌+◌, ◌-◌, ◌<◌, ◌≤◌, Bool, true, false, arith, int_cmp}
use Rattle.std.proofs.lemmas.Int.{ints}
use Rattle.std.proofs.lemmas.Bool.Decides.{nat_tests}
use Rattle.std.specs.Prelude.{ℤ, pos, neg_ℤ, ◌+ℤ◌, ◌-ℤ◌, ◌≤ℤ◌, ◌<ℤ◌, unsigned_abs, int_lt, int_le, nat_eq}
use Rattle.std.specs.Prelude.{if◌then◌else◌}
use Rattle.std.specs.Cmp.{Equal-is}
use Rattle.std.specs.FinMap.{int_cmp-IsAntisymmetric}
use Rattle.std.specs.Ordering.{is_eq, is_lt, int_eq}

-- ---- naturals

pub zero_at_most : (n : ℕ) → 0 ≤ n
zero_at_most n = omega arith

pub suc_at_most_suc : (m n : ℕ) → m ≤ n → suc m ≤ suc n
suc_at_most_suc m n le = omega arith

pub natural_at_most_trans : (l m n : ℕ) → l ≤ m → m ≤ n → l ≤ n
natural_at_most_trans l m n low high = omega arith

pub natural_zero_add : (n : ℕ) → 0 + n ≡ n
natural_zero_add n = omega arith

pub suc_minus_one : (n l : ℕ) → n ≡ suc l → n - 1 ≡ l
suc_minus_one n l is = omega arith

pub less_from_unequal : (n m : ℕ) → n ≤ m → nat_eq n m ≡ false → n < m
less_from_unequal n m le other = grind (arith, nat_tests)

pub natural_positive_from_unequal : (n : ℕ) → nat_eq n 0 ≡ false → 1 ≤ n
natural_positive_from_unequal n other = grind (arith, nat_tests)

-- ---- sums

pub add_zero : (x : ℤ) → (x +ℤ pos 0) ≡ x
add_zero x = omega (arith, ints)

pub zero_add : (x : ℤ) → (pos 0 +ℤ x) ≡ x
zero_add x = omega (arith, ints)

pub add_assoc : (x y z : ℤ) → ((x +ℤ y) +ℤ z) ≡ (x +ℤ (y +ℤ z))
add_assoc x y z = omega (arith, ints)

pub add_assoc_to : (x y z sum : ℤ) → (y +ℤ z) ≡ sum → ((x +ℤ y) +ℤ z) ≡ (x +ℤ sum)
add_assoc_to x y z sum is = omega (arith, ints)

-- a sum with a number that is 0
pub add_nothing : (x y : ℤ) → y ≡ pos 0 → (x +ℤ y) ≡ x
add_nothing x y none = omega (arith, ints)

pub zeros_add_to_zero : (x y : ℤ) → x ≡ pos 0 → y ≡ pos 0 → (x +ℤ y) ≡ pos 0
zeros_add_to_zero x y first second = omega (arith, ints)

pub add_two_zeros : (x : ℤ) → (x +ℤ (pos 0 +ℤ pos 0)) ≡ x
add_two_zeros x = omega (arith, ints)

pub zero_from_own_double : (x : ℤ) → x ≡ (x +ℤ x) → x ≡ pos 0
zero_from_own_double x is = omega (arith, ints)

-- two changes, one after the other
pub changes_add : (x y z d e : ℤ) → y ≡ (x +ℤ d) → z ≡ (y +ℤ e) → z ≡ (x +ℤ (d +ℤ e))
changes_add x y z d e first second = omega (arith, ints)

-- ---- differences

pub add_neg_self : (x : ℤ) → (x +ℤ neg_ℤ x) ≡ pos 0
add_neg_self x = omega (arith, ints)

pub sub_self : (x : ℤ) → (x -ℤ x) ≡ pos 0
sub_self x = omega (arith, ints)

pub add_neg_zero : (x : ℤ) → (x +ℤ neg_ℤ (pos 0)) ≡ x
add_neg_zero x = omega (arith, ints)

pub zero_sub_zero : (x : ℤ) → x ≡ pos 0 → (pos 0 +ℤ neg_ℤ x) ≡ pos 0
zero_sub_zero x none = omega (arith, ints)

pub add_sub_self : (x y : ℤ) → (x +ℤ (y -ℤ y)) ≡ x
add_sub_self x y = omega (arith, ints)

pub add_sub_first : (x y : ℤ) → ((x +ℤ y) -ℤ x) ≡ y
add_sub_first x y = omega (arith, ints)

-- ---- bounds

pub at_most_refl : (x : ℤ) → x ≤ℤ x
at_most_refl x = omega (arith, ints)

pub at_most_trans : (x y z : ℤ) → x ≤ℤ y → y ≤ℤ z → x ≤ℤ z
at_most_trans x y z first second = omega (arith, ints)

pub one_not_at_most_zero : pos 1 ≤ℤ pos 0 → ⊥
one_not_at_most_zero le = omega (arith, ints)

pub zero_at_most_one : (x : ℤ) → x ≡ pos 0 → x ≤ℤ pos 1
zero_at_most_one x none = omega (arith, ints)

pub add_zero_at_most : (x bound : ℤ) → x ≤ℤ bound → (x +ℤ pos 0) ≤ℤ bound
add_zero_at_most x bound le = omega (arith, ints)

pub add_to_zero_at_most_one : (x y : ℤ) → x ≡ pos 0 → y ≤ℤ pos 1 → (x +ℤ y) ≤ℤ pos 1
add_to_zero_at_most_one x y none le = omega (arith, ints)

pub sub_natural_at_most : (x bound : ℤ) (n : ℕ) → x ≤ℤ bound → (x +ℤ neg_ℤ (pos n)) ≤ℤ bound
sub_natural_at_most x bound n le = omega (arith, ints)

-- what is at most a balance is at most what is left of it, if the rest is taken
pub at_most_rest : (x y : ℤ) (n : ℕ) → pos n ≤ℤ (x -ℤ y) → y ≤ℤ (x +ℤ neg_ℤ (pos n))
at_most_rest x y n le = omega (arith, ints)

pub at_most_add_natural : (x y : ℤ) (n : ℕ) → y ≤ℤ x → y ≤ℤ (x +ℤ pos n)
at_most_add_natural x y n le = omega (arith, ints)

pub fits_after_zero : (x y bound : ℤ) → (x +ℤ y) ≤ℤ bound → (x +ℤ (y +ℤ pos 0)) ≤ℤ bound
fits_after_zero x y bound fits = omega (arith, ints)

pub fits_after_sub_natural : (x y bound : ℤ) (n : ℕ) → (x +ℤ y) ≤ℤ bound → ((x +ℤ neg_ℤ (pos n)) +ℤ y) ≤ℤ bound
fits_after_sub_natural x y bound n fits = omega (arith, ints)

pub fits_within_room : (x y bound : ℤ) (n : ℕ) → pos n ≤ℤ (bound -ℤ x -ℤ y) → ((x +ℤ pos n) +ℤ y) ≤ℤ bound
fits_within_room x y bound n le = omega (arith, ints)

pub fits_after_no_natural : (x y bound : ℤ) (n : ℕ) → (x +ℤ y) ≤ℤ bound → n ≡ 0 → ((x +ℤ pos n) +ℤ y) ≤ℤ bound
fits_after_no_natural x y bound n fits none = omega (arith, ints)

pub room_after_zero : (x y z : ℤ) → (x -ℤ y -ℤ z) ≤ℤ (x -ℤ y -ℤ (z +ℤ pos 0))
room_after_zero x y z = omega (arith, ints)

-- ---- numbers that are not below 0

pub natural_nonnegative : (n : ℕ) → pos 0 ≤ℤ pos n
natural_nonnegative n = omega (arith, ints)

pub nonnegative_from_natural : (x : ℤ) (n : ℕ) → x ≡ pos n → pos 0 ≤ℤ x
nonnegative_from_natural x n is = omega (arith, ints)

pub nonnegative_from_positive : (x : ℤ) → pos 1 ≤ℤ x → pos 0 ≤ℤ x
nonnegative_from_positive x some = omega (arith, ints)

pub add_nonnegative : (x y : ℤ) → pos 0 ≤ℤ x → pos 0 ≤ℤ y → pos 0 ≤ℤ (x +ℤ y)
add_nonnegative x y low least = omega (arith, ints)

pub add_natural_nonnegative : (x : ℤ) (n : ℕ) → pos 0 ≤ℤ x → pos 0 ≤ℤ (x +ℤ pos n)
add_natural_nonnegative x n low = omega (arith, ints)

pub natural_add_nonnegative : (n : ℕ) (x : ℤ) → pos 0 ≤ℤ x → pos 0 ≤ℤ (pos n +ℤ x)
natural_add_nonnegative n x low = omega (arith, ints)

pub sub_nonnegative : (x y : ℤ) → y ≤ℤ x → pos 0 ≤ℤ (x +ℤ neg_ℤ y)
sub_nonnegative x y le = omega (arith, ints)

-- ---- numbers above 0

pub natural_positive : (n : ℕ) → 1 ≤ n → pos 1 ≤ℤ pos n
natural_positive n some = omega (arith, ints)

pub add_positive_first : (x y : ℤ) → pos 1 ≤ℤ x → pos 0 ≤ℤ y → pos 1 ≤ℤ (x +ℤ y)
add_positive_first x y some low = omega (arith, ints)

pub add_positive_second : (x y : ℤ) → pos 0 ≤ℤ x → pos 1 ≤ℤ y → pos 1 ≤ℤ (x +ℤ y)
add_positive_second x y low some = omega (arith, ints)

pub sub_natural_positive : (x : ℤ) (n : ℕ) → pos 0 ≤ℤ x → n < unsigned_abs x → pos 0 <ℤ (x +ℤ neg_ℤ (pos n))
sub_natural_positive x n low less = omega (arith, ints)

-- ---- absolute values

pub unsigned_abs_natural : (x : ℤ) (n : ℕ) → x ≡ pos n → unsigned_abs x ≡ n
unsigned_abs_natural x n is = ap unsigned_abs is

pub unsigned_abs_nonnegative : (x : ℤ) → pos 0 ≤ℤ x → pos (unsigned_abs x) ≡ x
unsigned_abs_nonnegative x low = omega (arith, ints)

pub unsigned_abs_positive : (x : ℤ) → pos 1 ≤ℤ x → 1 ≤ unsigned_abs x
unsigned_abs_positive (pos n) le = omega (arith, ints)
unsigned_abs_positive other le = absurd (omega (arith, ints))

pub unsigned_abs_at_most : (x y : ℤ) → pos 0 ≤ℤ x → x ≤ℤ y → unsigned_abs x ≤ unsigned_abs y
unsigned_abs_at_most x y low le = omega (arith, ints)

-- ---- tests

pub int_lt_false : (x y : ℤ) → int_lt x y ≡ false → y ≤ℤ x
int_lt_false x y test = grind (arith, ints)

pub int_cmp_not_less : (x y : ℤ) → is_lt (int_cmp x y) ≡ false → y ≤ℤ x
int_cmp_not_less x y test = grind (arith, ints)

pub int_cmp_same : (x : ℤ) → is_eq (int_cmp x x) ≡ true
int_cmp_same x = grind (arith, ints)

pub int_cmp_equal : (x y : ℤ) → is_eq (int_cmp x y) ≡ true → x ≡ y
int_cmp_equal x y tied = int_cmp-IsAntisymmetric x y ((Equal-is (int_cmp x y)).0 tied)

pub int_eq_true : (x y : ℤ) → int_eq x y ≡ true → x ≡ y
int_eq_true x y test = grind (arith, ints)

pub nonnegative_from_int_le : (x : ℤ) → int_le x (pos 0) ≡ false → pos 0 ≤ℤ x
nonnegative_from_int_le x test = grind (arith, ints)

pub positive_from_int_le : (x : ℤ) → int_le x (pos 0) ≡ false → pos 1 ≤ℤ x
positive_from_int_le x test = grind (arith, ints)

-- ---- numbers by a condition

pub if_zeros : (test : Bool) → (if test then pos 0 else pos 0) ≡ pos 0
if_zeros true = refl
if_zeros false = refl

pub if_zero : (test : Bool) (x : ℤ) → x ≡ pos 0 → (if test then x else pos 0) ≡ pos 0
if_zero true x none = none
if_zero false x none = refl

pub if_add : (test : Bool) (x y : ℤ)
    → (if test then x +ℤ y else pos 0) ≡ ((if test then x else pos 0) +ℤ (if test then y else pos 0))
if_add true x y = refl
if_add false x y = refl

pub indicator_nonnegative : (test : Bool) → pos 0 ≤ℤ (if test then pos 1 else pos 0)
indicator_nonnegative true = omega (arith, ints)
indicator_nonnegative false = omega (arith, ints)

pub indicator_at_most_one : (test : Bool) → (if test then pos 1 else pos 0) ≤ℤ pos 1
indicator_at_most_one true = omega (arith, ints)
indicator_at_most_one false = omega (arith, ints)

pub sub_if_zero : (test : Bool) (x y : ℤ) → y ≡ pos 0 → (x -ℤ (if test then y else pos 0)) ≡ x
sub_if_zero true x y none = omega (arith, ints)
sub_if_zero false x y none = omega (arith, ints)

pub sub_if_zeros : (test : Bool) (x : ℤ) → (x -ℤ (if test then pos 0 else pos 0)) ≡ x
sub_if_zeros true x = omega (arith, ints)
sub_if_zeros false x = omega (arith, ints)

pub zero_sub_if_zero : (test : Bool) (x : ℤ) → x ≡ pos 0 → (pos 0 -ℤ (if test then x else pos 0)) ≡ pos 0
zero_sub_if_zero true x none = omega (arith, ints)
zero_sub_if_zero false x none = refl

-- a sum in which one part, if it counts, is changed
pub add_change_if : (test : Bool) (sum x change : ℤ)
    → (sum +ℤ ((if test then (x +ℤ change) else pos 0) -ℤ (if test then x else pos 0)))
    ≡ (sum +ℤ (if test then change else pos 0))
add_change_if true sum x change = omega (arith, ints)
add_change_if false sum x change = omega (arith, ints)
