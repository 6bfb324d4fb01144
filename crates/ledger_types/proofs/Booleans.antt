-- Small facts of Booleans, orderings and choices.
use Rattle.std.proofs.Common.{◌≡◌, ◌≢◌, refl, ap, Bool, true, false, T, ◌&&◌, Option, Some, None}
use Rattle.std.specs.Prelude.{if◌then◌else◌}
use Rattle.std.specs.declared.cmp.Ordering.{Ordering}
use Rattle.std.specs.declared.cmp.Ordering.TheVariants.{Less, Equal, Greater}
use Rattle.std.specs.Ordering.{is_lt, is_gt, ordering_then}

-- ---- Booleans

pub both_true : (a b : Bool) → T a → T b → T (a && b)
both_true true b first second = second
both_true false b first second = first

pub first_true : (a b : Bool) → T (a && b) → T a
first_true true b both = tt
first_true false b both = both

pub second_true : (a b : Bool) → T (a && b) → T b
second_true true b both = both
second_true false b both = absurd both

-- a predicate of either value holds of the one chosen
pub if_either : {A : Type 0} (P : A → Type 0) (test : Bool) (x y : A) → P x → P y → P (if test then x else y)
if_either P true x y first second = first
if_either P false x y first second = second

pub if_some_none : {A : Type 0} (test : Bool) (x : A) (rest : Option A) → (if test then Some x else rest) ≡ None
    → (test ≡ false) × (rest ≡ None)
if_some_none true x rest none = absurd (cc)
if_some_none false x rest none = (refl, none)

-- ---- orderings

pub is_lt_Less : (o : Ordering) → T (is_lt o) → o ≡ Less
is_lt_Less Less test = refl
is_lt_Less Equal test = absurd test
is_lt_Less Greater test = absurd test

pub is_lt_true_Less : (o : Ordering) → is_lt o ≡ true → o ≡ Less
is_lt_true_Less Less test = refl
is_lt_true_Less Equal test = absurd (cc)
is_lt_true_Less Greater test = absurd (cc)

pub then_of_Equal : (first second : Ordering) → first ≡ Equal → ordering_then first second ≡ second
then_of_Equal first second tied = ap (λ o. ordering_then o second) tied

pub then_Equal : (o : Ordering) → ordering_then o Equal ≡ o
then_Equal Less = refl
then_Equal Equal = refl
then_Equal Greater = refl

pub then_Equal_parts : (first second : Ordering) → ordering_then first second ≡ Equal
    → (first ≡ Equal) × (second ≡ Equal)
then_Equal_parts Less second tied = absurd (cc)
then_Equal_parts Equal second tied = (refl, tied)
then_Equal_parts Greater second tied = absurd (cc)

pub then_not_Equal : (first second : Ordering) → second ≢ Equal → ordering_then first second ≢ Equal
then_not_Equal Less second apart tied = absurd (cc)
then_not_Equal Equal second apart tied = apart tied
then_not_Equal Greater second apart tied = absurd (cc)
