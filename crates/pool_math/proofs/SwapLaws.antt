-- What swaps give and take, as the code divides, and what the pool has after them.
use Rattle.std.proofs.Common.{◌≡◌, ap, subst, ◌∙◌, ℕ, ◌+◌, ◌-◌, ◌*◌, ◌/◌, ◌<◌, ◌≤◌, arith}
use Rattle.std.proofs.Math.Nat.{div-lt_iff_lt-mul, div-mul-le_self, lt-div-mul-add, add-sub_of_le, one-le-mul}
use Rattle.pool_math.specs.Pools.{given_for, taken_for, ceil_div}
use Rattle.pool_math.specs.Laws.{IsSwapped}

-- ---- what is given

pub given_as : (x y put divisor : ℕ) → divisor ≡ 10000 * x + 9970 * put → y * put * 9970 / divisor ≡ given_for x y put
unfolding given_for
given_as x y put divisor is =
    let product : y * put * 9970 ≡ 9970 * y * put = omega arith in
    ap (λ n. n / divisor) product ∙ ap (λ d. 9970 * y * put / d) is

pub given_left : (x y put : ℕ) → 1 ≤ x → 1 ≤ y → given_for x y put < y
unfolding given_for
given_left x y put some_x some_y =
    (div-lt_iff_lt-mul {k = 10000 * x + 9970 * put} {x = 9970 * y * put} {y = y} (omega arith)).1
    (omega (arith, one-le-mul some_x some_y))

-- so much at most may be given that the product of the reserves doesn't fall
given_grows : (x put given rest : ℕ) → given * (10000 * x + 9970 * put) ≤ 9970 * (given + rest) * put
    → x * (given + rest) ≤ (x + put) * rest
given_grows x put given rest most = omega arith

given_product : (x y put given : ℕ) → given < y → given * (10000 * x + 9970 * put) ≤ 9970 * y * put
    → x * y ≤ (x + put) * (y - given)
given_product x y put given left =
    subst (λ (sum : ℕ). given * (10000 * x + 9970 * put) ≤ 9970 * sum * put → x * sum ≤ (x + put) * (y - given))
    (add-sub_of_le (omega arith)) (given_grows x put given (y - given))

pub given_swapped : (x y put : ℕ) → 1 ≤ x → 1 ≤ y → IsSwapped x y put (given_for x y put)
unfolding given_for
given_swapped x y put some_x some_y = record {
  left = given_left x y put some_x some_y;
  product = given_product x y put (given_for x y put) (given_left x y put some_x some_y)
      (div-mul-le_self (9970 * y * put) (10000 * x + 9970 * put));
}

-- ---- what is taken

pub taken_as : (x y want divisor : ℕ) → divisor ≡ 9970 * (y - want)
    → (x * want * 10000 + (divisor - 1)) / divisor ≡ taken_for x y want
unfolding taken_for
taken_as x y want divisor is =
    let product : x * want * 10000 ≡ 10000 * x * want = omega arith in
    let left : divisor ≡ (y - want) * 9970 = omega (arith, is) in
    ap (λ n. (n + (divisor - 1)) / divisor) product ∙ ap (λ d. ceil_div (10000 * x * want) d) left

-- so much at least has to be taken that the product of the reserves doesn't fall
taken_grows : (x taken want rest : ℕ) → 1 ≤ rest
    → 10000 * x * want + (rest * 9970 - 1) < taken * (rest * 9970) + rest * 9970
    → x * (want + rest) ≤ (x + taken) * rest
taken_grows x taken want rest some least = omega arith

taken_product : (x y want : ℕ) → want < y → x * y ≤ (x + taken_for x y want) * (y - want)
unfolding taken_for
taken_product x y want left =
    subst (λ (sum : ℕ). x * sum ≤ (x + taken_for x y want) * (y - want)) (add-sub_of_le (omega arith))
    (taken_grows x (taken_for x y want) want (y - want) (omega arith)
    (lt-div-mul-add {a = 10000 * x * want + ((y - want) * 9970 - 1)} {b = (y - want) * 9970} (omega arith)))

pub taken_swapped : (x y want : ℕ) → want < y → IsSwapped x y (taken_for x y want) want
taken_swapped x y want left = record { left = left; product = taken_product x y want left }
