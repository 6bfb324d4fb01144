-- How many levels take a new curr.
use Rattle.std.proofs.Common.{◌≡◌, ◌+◌, ◌-◌, sym, ◌/◌, ◌%◌, ◌^◌, ◌<◌, ◌≤◌, ℕ, zero, suc, Bool, true, false, refl, ap}
use Rattle.std.proofs.Common.{subst, ◌∙◌}
use Rattle.std.proofs.Common.{arith, nat_lt}
use Rattle.std.proofs.lemmas.Bool.{ltb-true, ltb-false}
use Rattle.bucket_levels.specs.Spills.{half, spills}
use Rattle.bucket_levels.proofs.Halves.{half_is_positive, size_fits, none_spills_below, is_divided, is_not_divided}
use Rattle.page_cache.specs.Caches.{takes_curr}

one_more : (i : ℕ) → i + 1 ≡ suc i
one_more i = omega arith

pub power_fits : (n : ℕ) → 1 ≤ n → n < 11 → 4 ^ n < 2 ^ 32
power_fits zero low high = absurd (omega (arith, low))
power_fits (suc i) low high = subst (λ n. 4 ^ n < 2 ^ 32) (one_more i) (size_fits i (omega (arith, high)))

half_at : (i : ℕ) → half i ≡ 4 ^ suc i / 2
half_at i = ap (λ n. 4 ^ n / 2) (one_more i)

pub half_positive : (n : ℕ) → 1 ≤ n → 0 < 4 ^ n / 2
half_positive zero low = absurd (omega (arith, low))
half_positive (suc i) low = subst (λ n. 0 < n) (half_at i) (half_is_positive i)

first_level : (i seq : ℕ) → i < 1 → takes_curr i seq ≡ true
first_level zero seq lt = refl
first_level (suc i) seq lt = absurd (omega (arith, lt))

pub first_levels : (seq i : ℕ) → i < 1 → takes_curr i seq ≡ true
first_levels seq i lt = first_level i seq lt

divided_by : (i seq : ℕ) → i < 10 → seq % half i ≡ 0 → (b : Bool) → spills i seq ≡ b → spills i seq ≡ true
divided_by i seq low even true is = is
divided_by i seq low even false is = absurd (is_not_divided i seq low is even)

divided : (n seq : ℕ) → 1 ≤ n → n < 11 → seq % (4 ^ n / 2) ≡ 0 → takes_curr n seq ≡ true
divided zero seq low high even = refl
divided (suc i) seq low high even =
    divided_by i seq (omega (arith, high)) (ap (λ n. seq % n) (half_at i) ∙ even) (spills i seq) refl

-- a level more
pub one_renewed : (seq count : ℕ) → 1 ≤ count → count < 11 → seq % (4 ^ count / 2) ≡ 0
    → ((i : ℕ) → i < count → takes_curr i seq ≡ true) → (i : ℕ) → i < count + 1 → takes_curr i seq ≡ true
one_renewed seq count low high even above i lt = by_order (nat_lt i count) refl
  where
    by_order : (b : Bool) → nat_lt i count ≡ b → takes_curr i seq ≡ true
    by_order true is = above i (ltb-true i count is)
    by_order false is =
        let ge = ltb-false i count is in
        let same : count ≡ i = omega (arith, ge, lt) in
        subst (λ n. takes_curr n seq ≡ true) same (divided count seq low high even)

none_from : (i n m seq : ℕ) → m ≡ n + i → spills i seq ≡ false → spills m seq ≡ false
none_from i zero m seq e is =
    let same : i ≡ m = omega (arith, e) in subst (λ k. spills k seq ≡ false) same is
none_from i (suc n) zero seq e is = absurd (omega (arith, e))
none_from i (suc n) (suc m) seq e is = none_spills_below m seq (none_from i n m seq (omega (arith, e)) is)

takes_none : (n i seq : ℕ) → 1 ≤ n → n ≤ i → takes_curr n seq ≡ false → takes_curr i seq ≡ false
takes_none zero i seq low le is = absurd (omega (arith, low))
takes_none (suc n) zero seq low le is = absurd (omega (arith, le))
takes_none (suc n) (suc i) seq low le is = none_from n (i - n) i seq (omega (arith, le)) is

undivided_by : (i seq : ℕ) → (seq % half i ≡ 0 → ⊥) → (b : Bool) → spills i seq ≡ b → spills i seq ≡ false
undivided_by i seq other true is = absurd (other (is_divided i seq is))
undivided_by i seq other false is = is

undivided : (n seq : ℕ) → 1 ≤ n → (seq % (4 ^ n / 2) ≡ 0 → ⊥) → takes_curr n seq ≡ false
undivided zero seq low other = absurd (omega (arith, low))
undivided (suc i) seq low other =
    undivided_by i seq (λ even. other (ap (λ n. seq % n) (sym (half_at i)) ∙ even)) (spills i seq) refl

-- the levels below the last one that takes a new curr
pub others_undivided : (seq count : ℕ) → 1 ≤ count → (seq % (4 ^ count / 2) ≡ 0 → ⊥) → (i : ℕ) → count ≤ i
    → takes_curr i seq ≡ false
others_undivided seq count low other i le = takes_none count i seq low le (undivided count seq low other)

-- the deepest level is the last
pub none_deeper : (seq count : ℕ) → 11 ≤ count → (i : ℕ) → count ≤ i → takes_curr i seq ≡ false
none_deeper seq count deep i le = takes_none 11 i seq (omega arith) (omega (arith, deep, le)) refl
