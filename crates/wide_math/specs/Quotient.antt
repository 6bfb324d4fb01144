-- Rounded quotients of whole numbers.
use Rattle.std.specs.Prelude.{ℕ, ◌+◌, ◌-◌, ◌/◌}
use Rattle.wide_math.specs.declared.quotient.Round.{Round}
use Rattle.wide_math.specs.declared.quotient.Round.TheVariants.{Down, Up}

-- the quotient of a divisor that isn't 0, rounded to the next whole number below or above
abbrev pub quotient : Round → ℕ → ℕ → ℕ
quotient Down x divisor = x / divisor
quotient Up x divisor = (x + (divisor - 1)) / divisor
