-- Tests in their order: each with the fault that it finds where it holds.
use Rattle.std.specs.Prelude.{Bool, List, [], ◌∷◌, Option, Some, None, Result, Ok, Err, if◌then◌else◌}

abbrev pub Tests : Type 0 → Type 0
Tests F = List (Bool × F)

-- the fault of the first test that holds
abbrev pub first_fault : {F : Type 0} → Tests F → Option F
first_fault [] = None
first_fault (test ∷ tests) = if test.0 then Some test.1 else first_fault tests

abbrev pub unless_fault : {F M : Type 0} → Option F → M → Result M F
unless_fault None m = Ok m
unless_fault (Some fault) m = Err fault

-- the fault of the first test that holds, or what is done where none does
abbrev pub unless_first : {F M : Type 0} → Tests F → M → Result M F
unless_first tests m = unless_fault (first_fault tests) m
