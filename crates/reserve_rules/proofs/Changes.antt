-- When a change is refused.
use Rattle.reserve_rules.proofs.Prelude.{◌≡◌, ◌↔◌, ℤ, subst}
use Rattle.reserve_rules.specs.Reserve.{Passes}

-- what is said of the numbers that were passed on holds of those that they equal
pub refused_at : {A : Type 0} {delta delta' room room' available available' : ℤ} →
    (A ↔ Passes delta' room' available') → delta' ≡ delta → room' ≡ room → available' ≡ available
    → A ↔ Passes delta room available
refused_at {A} {delta} {delta'} {room} {room'} {available} {available'} h d r a =
    let at_delta = subst (λ z. A ↔ Passes z room' available') d h in
    let at_room = subst (λ z. A ↔ Passes delta z available') r at_delta in
    subst (λ z. A ↔ Passes delta room z) a at_room
