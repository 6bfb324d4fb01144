use Rattle.std.proofs.Common.{length}
use Rattle.bucket_core.proofs.index.+find_stored.Given as goal

abbrev pub decreases-find_stored : goal.decreases-find_stored
decreases-find_stored l = length l.offsets.now
