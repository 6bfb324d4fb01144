-- Tests that let a change through.
use Rattle.std.proofs.Common.{◌≡◌, refl, Bool, true, false, ◌∷◌, Some, None, Ok}
use Rattle.sponsor_laws.specs.entry_slots.Tests.{Tests, first_fault, unless_fault, unless_first}

-- a change that was let through
pub unless_first_ok : {F M : Type 0} (tests : Tests F) (m new : M) → unless_first tests m ≡ Ok new
    → (first_fault tests ≡ None) × (m ≡ new)
unless_first_ok {F} {M} tests m new is =
    elim (first_fault tests) as (λ o. first_fault tests ≡ o → unless_fault o m ≡ Ok new
    → (first_fault tests ≡ None) × (m ≡ new)) [
      | None ↦ λ none done. (none, cc)
      | Some fault ↦ λ some done. absurd (cc)
    ] refl is

pub first_passed : {F : Type 0} (b : Bool) (fault : F) (tests : Tests F) → first_fault ((b, fault) ∷ tests) ≡ None
    → (b ≡ false) × (first_fault tests ≡ None)
first_passed true fault tests is = absurd (cc)
first_passed false fault tests is = (refl, is)
