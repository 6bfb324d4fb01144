-- Negative numbers as they are written.
use Rattle.std.specs.Prelude.{ℕ, zero, suc, ℤ, pos, negsuc}

-- minus n
abbrev pub minus : ℕ → ℤ
minus zero = pos zero
minus (suc n) = negsuc n
