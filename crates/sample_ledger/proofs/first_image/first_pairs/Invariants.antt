use Rattle.sample_ledger.proofs.Prelude.{◌≡◌, ◌∷◌, map, replicate, None}
use Rattle.bucket_levels.specs.Pairs.{empty_pair}
use Rattle.bucket_levels.specs.Levels.{pair_of}
use Rattle.sample_ledger.proofs.first_image.first_pairs.Given as goal

abbrev pub invariant-loop-level : goal.invariant-loop-level
invariant-loop-level l =
    map pair_of l.pairs.items ≡ record { curr = l.bucket.value; snap = None } ∷ replicate l._level empty_pair
