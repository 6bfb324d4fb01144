-- Rows: whether an account or a line has an extension once nothing, something, and nothing again is recorded in it.
use Rattle.probe.proofs.Prelude.{◌≡◌, refl, Bool, true, false, [], ◌∷◌, Option, Some, None, pos, with_liabilities_in}
use Rattle.entry_slots.specs.LineExtensions.{with_line_liabilities_in, with_use_count_in}
use Rattle.ledger_types.specs.declared.price.Liabilities.{Liabilities}

abbrev nothing : Liabilities
nothing = record { buying = pos 0; selling = pos 0 }

abbrev something : Liabilities
something = record { buying = pos 0; selling = pos 1 }

abbrev is_there : {X : Type 0} → Option X → Bool
is_there None = false
is_there (Some x) = true

account_liabilities : is_there (with_liabilities_in nothing None)
    ∷ is_there (with_liabilities_in something (with_liabilities_in nothing None))
    ∷ is_there (with_liabilities_in nothing (with_liabilities_in something None)) ∷ [] ≡ false ∷ true ∷ true ∷ []
account_liabilities = refl

line_liabilities : is_there (with_line_liabilities_in nothing None)
    ∷ is_there (with_line_liabilities_in something (with_line_liabilities_in nothing None))
    ∷ is_there (with_line_liabilities_in nothing (with_line_liabilities_in something None)) ∷ []
    ≡ false ∷ true ∷ true ∷ []
line_liabilities = refl

use_counts : is_there (with_use_count_in (pos 0) None)
    ∷ is_there (with_use_count_in (pos 1) (with_use_count_in (pos 0) None))
    ∷ is_there (with_use_count_in (pos 0) (with_use_count_in (pos 1) None)) ∷ [] ≡ false ∷ true ∷ true ∷ []
use_counts = refl
