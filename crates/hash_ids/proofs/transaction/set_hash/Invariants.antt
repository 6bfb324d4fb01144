use Rattle.hash_ids.proofs.Prelude.{◌++◌, take, flat_map}
use Rattle.sha2.specs.Hashers.{Holds256}
use Rattle.hash_ids.proofs.transaction.set_hash.Given as goal

-- the hasher holds the hash before and the envelopes so far
abbrev pub invariant-loop-envelope : goal.invariant-loop-envelope
invariant-loop-envelope g l =
    Holds256 l.hasher (l.previous.0
    ++ flat_map (λ envelope. g.T.AsSlice.items envelope) (take l.envelope-index l.envelopes))
