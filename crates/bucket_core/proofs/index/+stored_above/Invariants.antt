use Rattle.std.proofs.Common.{length}
use Rattle.bucket_core.proofs.index.+stored_above.Given as goal

abbrev pub decreases-stored_above : goal.decreases-stored_above
decreases-stored_above l = length l.offsets.now
