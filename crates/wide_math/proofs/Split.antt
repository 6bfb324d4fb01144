-- A scaled quotient, by the whole part of the quotient and its rest.
use Rattle.std.proofs.Common.{◌≡◌, ℕ, ◌+◌, ◌-◌, ◌*◌, ◌/◌, ◌%◌, ◌≤◌, ap, add-zero, arith}
use Rattle.std.proofs.Math.Nat.{mul-add-div_right, div-eq_of_lt}
use Rattle.std.proofs.lemmas.Nat.{div-add-mod'}
use Rattle.wide_math.specs.declared.quotient.Round.{Round}
use Rattle.wide_math.specs.declared.quotient.Round.TheVariants.{Down, Up}
use Rattle.wide_math.specs.Quotient.{quotient}

-- p * k and what is carried, in multiples of d and the rest
in_multiples : (p k d carried : ℕ) → p * k + carried ≡ p / d * k * d + (p % d * k + carried)
in_multiples p k d carried = omega (arith, ap (λ n. n * k) (div-add-mod' p d))

-- the multiples of d leave the quotient whole
carried_split : (p k d carried : ℕ) → 1 ≤ d → (p * k + carried) / d ≡ p / d * k + (p % d * k + carried) / d
carried_split p k d carried some =
    rw (in_multiples p k d carried) (mul-add-div_right (omega arith) (p / d * k) (p % d * k + carried))

-- only the rest is rounded
pub quotient_split : (round : Round) (p k d : ℕ) → 1 ≤ d
    → quotient round (p * k) d ≡ p / d * k + quotient round (p % d * k) d
quotient_split Down p k d some = simp add-zero at (carried_split p k d 0 some)
quotient_split Up p k d some = carried_split p k d (d - 1) some

-- nothing scaled is nothing, rounded either way
pub quotient_zero : (round : Round) (p k d : ℕ) → k ≡ 0 → 1 ≤ d → quotient round (p * k) d ≡ 0
quotient_zero Down p k d none some = div-eq_of_lt (omega (arith, ap (λ n. p * n) none))
quotient_zero Up p k d none some = div-eq_of_lt (omega (arith, ap (λ n. p * n) none))
