use Rattle.bucket_merge.proofs.Prelude.{◌≡◌, ◌+◌, ◌++◌, List, length, Pair, walk, Has, GoesTo, records_of, size_of}
use Rattle.bucket_merge.proofs.merge.merge_sides.Given as goal

abbrev pub invariant-loop-older : goal.invariant-loop-older
invariant-loop-older g l = record {
  goes : (old new : List Pair) → Has l.fn.older old → Has l.fn.newer new
      → GoesTo l.level (l.fn.file.items ++ records_of (walk l.level old new)) l.file.items l.older l.newer;
  steps : l.steps + length l.older.ahead + length l.newer.ahead
      ≡ l.fn.steps + length l.fn.older.ahead + length l.fn.newer.ahead;
}

abbrev pub decreases-loop-older : goal.decreases-loop-older
decreases-loop-older g l = size_of l.older + size_of l.newer
