-- Ranks are in the exact order of prices.
use Rattle.entry_map.proofs.Prelude.{◌≡◌, ℕ, ◌+◌, ◌*◌, ◌/◌, ◌<◌, ◌≤◌, cond, true, false, arith, unsigned_abs, nat_eq}
use Rattle.entry_map.proofs.Prelude.{div-mul-le_self, mul-le-mul_right, le_of_mul-le-mul_right, Price, rank}
use Rattle.std.proofs.lemmas.Nat.{le-div}

-- a / b and c / d, each times m and rounded down
module _ (a b c d m : ℕ) (over : 1 ≤ b) (under : 1 ≤ d) where
  scaled : a * m / b * b * d ≤ a * m * d
  scaled = mul-le-mul_right d (div-mul-le_self (a * m) b)

  pub not_above : a * d ≤ c * b → a * m / b ≤ c * m / d
  not_above h = le-div (a * m / b) (c * m) d under
      (le_of_mul-le-mul_right {k = b} (omega (arith, scaled, mul-le-mul_right m h)) over)

  pub below : b * d ≤ m → a * d + 1 ≤ c * b → a * m / b + 1 ≤ c * m / d
  below fits h = le-div (a * m / b + 1) (c * m) d under
      (le_of_mul-le-mul_right {k = b} (omega (arith, scaled, fits, mul-le-mul_right m h)) over)

-- prices whose parts fit an i32, and whose denominators are at least 1
module _ (p q : Price) (one : 1 ≤ unsigned_abs p.d) (other : 1 ≤ unsigned_abs q.d)
    (fits : unsigned_abs p.d * unsigned_abs q.d ≤ 4611686018427387904) where
  rank_is : (r : Price) → 1 ≤ unsigned_abs r.d
      → rank r ≡ unsigned_abs r.n * 4611686018427387904 / unsigned_abs r.d + 1
  rank_is r h = elim (nat_eq (unsigned_abs r.d) 0) as (λ b. nat_eq (unsigned_abs r.d) 0 ≡ b
      → cond b 1 (unsigned_abs r.n * 4611686018427387904 / unsigned_abs r.d + 1)
      ≡ unsigned_abs r.n * 4611686018427387904 / unsigned_abs r.d + 1) [
        | true ↦ λ e. grind (arith, h, e)
        | false ↦ λ e. λ i. unsigned_abs r.n * 4611686018427387904 / unsigned_abs r.d + 1
      ] (λ i. nat_eq (unsigned_abs r.d) 0)

  pub cheaper_is_below : unsigned_abs p.n * unsigned_abs q.d < unsigned_abs q.n * unsigned_abs p.d → rank p < rank q
  cheaper_is_below h = omega (
    arith,
    rank_is p one,
    rank_is q other,
    below (unsigned_abs p.n) (unsigned_abs p.d) (unsigned_abs q.n) (unsigned_abs q.d) 4611686018427387904 one other
        fits (omega (arith, h)),
  )

  pub same_is_same : unsigned_abs p.n * unsigned_abs q.d ≡ unsigned_abs q.n * unsigned_abs p.d → rank p ≡ rank q
  same_is_same h = omega (
    arith,
    rank_is p one,
    rank_is q other,
    not_above (unsigned_abs p.n) (unsigned_abs p.d) (unsigned_abs q.n) (unsigned_abs q.d) 4611686018427387904 one other
        (omega (arith, h)),
    not_above (unsigned_abs q.n) (unsigned_abs q.d) (unsigned_abs p.n) (unsigned_abs p.d) 4611686018427387904 other one
        (omega (arith, h)),
  )
