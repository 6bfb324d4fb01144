-- How far a check has come: what is still missing, and which signers are left.
use Rattle.std.specs.Prelude.{ℕ, ◌-◌, nat_le, List, [], ◌∷◌, Bool, true, false, Option, Some, None, option_and_then}
use Rattle.std.specs.Prelude.{if◌then◌else◌}
use Rattle.ledger_types.specs.declared.signer.Signer.{Signer}
use Rattle.signer_check.specs.Weight.{Counted, Match}

-- what is missing of a threshold once a signer of this weight counts, or nothing where it weighs enough
abbrev pub missing_with : (need weight : ℕ) → Option ℕ
missing_with need weight = if nat_le need weight then None else Some (need - weight)

-- the same once each of these signers counts, in their order
abbrev pub missing_after : ℕ → List Counted → Option ℕ
missing_after need [] = Some need
missing_after need (c ∷ cs) = option_and_then (λ missing. missing_after missing cs) (missing_with need c.weight)

-- the signers left, in their order: those whose flag is not set
abbrev pub left_of : List Bool → List Signer → List Signer
left_of flags [] = []
left_of [] (signer ∷ signers) = []
left_of (true ∷ flags) (signer ∷ signers) = left_of flags signers
left_of (false ∷ flags) (signer ∷ signers) = signer ∷ left_of flags signers

-- the signers left after a signature, by what it matched
abbrev pub left_after : List Signer → Option Match → List Signer
left_after left None = left
left_after left (Some found) = found.others
