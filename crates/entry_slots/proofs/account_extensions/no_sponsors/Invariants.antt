use Rattle.entry_slots.proofs.Prelude.{◌≡◌, None, Option, map, take, AccountId, Signer}
use Rattle.entry_slots.proofs.account_extensions.no_sponsors.Given as goal

-- none for each signer so far
abbrev pub invariant-loop-signer : goal.invariant-loop-signer
invariant-loop-signer l = l.sponsors ≡ map {A = Signer} {B = Option AccountId} (λ signer. None)
    (take l._signer-index l._signer-items)
