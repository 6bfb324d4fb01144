use Rattle.std.proofs.Common.{◌≡◌, length}
use Rattle.bucket_core.proofs.Indexing.{IsOnWay}
use Rattle.bucket_core.proofs.index.offsets_of.Given as goal

abbrev pub invariant-loop-item : goal.invariant-loop-item
invariant-loop-item l = IsOnWay l.file l.ahead l.offsets.items × (l.at ≡ l.ahead.at)

abbrev pub decreases-loop-item : goal.decreases-loop-item
decreases-loop-item l = length l.ahead.rest
