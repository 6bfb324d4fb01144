use Rattle.bucket_levels.proofs.Prelude.{take, flat_map, pair_of, level_hash}
use Rattle.sha2.specs.Hashers.{Holds256}
use Rattle.bucket_levels.proofs.hash.hash_of_levels.Given as goal

-- the hasher holds the hashes of the levels so far
abbrev pub invariant-loop-pair : goal.invariant-loop-pair
invariant-loop-pair l =
    Holds256 l.hasher (flat_map (λ pair. (level_hash (pair_of pair)).0) (take l.pair-index l.pairs))
