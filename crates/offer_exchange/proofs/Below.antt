-- The rows of the table move no more than what they are worth.
use Rattle.offer_exchange.proofs.Prelude.{ℕ, ◌+◌, ◌-◌, ◌*◌, ◌/◌, ◌≤◌, ◌<◌, true, false, arith, div-le_of_le-mul}
use Rattle.offer_exchange.proofs.Prelude.{div-mul-le_self, lt_of_mul-lt-mul_right, nat_lt, if◌then◌else◌, Rounding}
use Rattle.offer_exchange.proofs.Prelude.{Normal, StrictSend, StrictReceive, Amounts, ceil_div, wheat_then_up}
use Rattle.offer_exchange.proofs.Prelude.{wheat_then_down, sheep_then_up, sheep_then_down, used_up, some_stays}

-- what whole parts make up is no more than all
pub whole_below : (v k : ℕ) → v / k * k ≤ v
whole_below v k = div-mul-le_self v k

-- ---- so many parts of k, where all is at most x of them

swapped : (v x k : ℕ) → v ≤ x * k → v ≤ k * x
swapped v x k most = omega arith

down : (v x k : ℕ) → v ≤ x * k → v / k ≤ x
down v x k most = div-le_of_le-mul k {m = v} {n = x} (swapped v x k most)

below_next : (q v x k : ℕ) → 1 ≤ k → q * k ≤ v + (k - 1) → v ≤ x * k → q * k < (x + 1) * k
below_next q v x k some entire most = omega arith

not_past : (q x : ℕ) → q < x + 1 → q ≤ x
not_past q x below = omega arith

ceil_div_at_most : (v x k : ℕ) → 1 ≤ k → v ≤ x * k → ceil_div v k ≤ x
ceil_div_at_most v x k some most = not_past (ceil_div v k) x (lt_of_mul-lt-mul_right k
    (below_next (ceil_div v k) v x k some (whole_below (v + (k - 1)) k) most))

quotient_times_at_most : (v k most : ℕ) → v ≤ most → v / k * k ≤ most
quotient_times_at_most v k most le = omega (arith, whole_below v k)

-- ---- rows

-- at most x of wheat and y of sheep
pub record AreAtMost (x y : ℕ) (a : Amounts) : Type 0 where
  pub wheat : a.wheat ≤ x
  pub sheep : a.sheep ≤ y

-- v is worth at most x of wheat, and at most y of sheep
module _ (n d v x y : ℕ) (some_n : 1 ≤ n) (some_d : 1 ≤ d) (wheat : v ≤ x * n) (sheep : v ≤ y * d) where
  wheat_up : AreAtMost x y (wheat_then_up n d v)
  wheat_up = record {
    wheat = down v x n wheat;
    sheep = ceil_div_at_most (v / n * n) y d some_d (quotient_times_at_most v n (y * d) sheep);
  }

  wheat_down : AreAtMost x y (wheat_then_down n d v)
  wheat_down = record {
    wheat = down v x n wheat;
    sheep = down (v / n * n) y d (quotient_times_at_most v n (y * d) sheep);
  }

  sheep_up : AreAtMost x y (sheep_then_up n d v)
  sheep_up = record {
    wheat = ceil_div_at_most (v / d * d) x n some_n (quotient_times_at_most v d (x * n) wheat);
    sheep = down v y d sheep;
  }

  sheep_down : AreAtMost x y (sheep_then_down n d v)
  sheep_down = record {
    wheat = down (v / d * d) x n (quotient_times_at_most v d (x * n) wheat);
    sheep = down v y d sheep;
  }

  pub used_up_below : AreAtMost x y (used_up n d v)
  used_up_below = elim (nat_lt d n) as (λ b. AreAtMost x y (if b then wheat_then_down n d v else sheep_then_up n d v)) [
    | true ↦ wheat_down
    | false ↦ sheep_up
  ]

  pub some_stays_below : (rounding : Rounding) (most : ℕ) → most ≤ y → AreAtMost x y (some_stays rounding n d v most)
  some_stays_below StrictSend most below = record { wheat = down v x n wheat; sheep = below }
  some_stays_below StrictReceive most below = wheat_up
  some_stays_below Normal most below =
      elim (nat_lt d n) as (λ b. AreAtMost x y (if b then wheat_then_up n d v else sheep_then_down n d v)) [
        | true ↦ wheat_up
        | false ↦ sheep_down
      ]
