use Rattle.shared_tree.proofs.Prelude.{length}
use Rattle.shared_tree.proofs.changes.+count_below.Given as goal

abbrev pub decreases-count_below : goal.decreases-count_below
decreases-count_below g l = length l.changes.now
