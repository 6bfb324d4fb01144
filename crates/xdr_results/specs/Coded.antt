-- Values of a union that have nothing after their discriminant.
use Rattle.std.specs.Prelude.{ℤ, List, [], ◌∷◌}
use Rattle.xdr_core.specs.declared.fault.XdrFault.{XdrFault}
use Rattle.xdr_core.specs.Combinators.{empty, Arm, part}
use Rattle.xdr_core.specs.Xdr.{Xdr, union_of}

-- the arm of one such value: its number, and nothing after it
abbrev pub plain : {V : Type 0} → (V → ℤ) → V → Arm XdrFault V
plain number value = record { Body = Unit {0}; mark = number value; body = empty; make = λ v. value }

abbrev pub plain_arms : {V : Type 0} → (V → ℤ) → List V → List (Arm XdrFault V)
plain_arms number [] = []
plain_arms number (value ∷ others) = plain number value ∷ plain_arms number others

-- a union all of whose values have nothing after their discriminant
abbrev pub codes : {V : Type 0} → (V → ℤ) → List V → Xdr V
codes number values = union_of (λ value. part (plain number value) tt) (plain_arms number values)
