use Rattle.shared_tree.proofs.Prelude.{length}
use Rattle.shared_tree.proofs.tree.Tree.+of_changes.Given as goal

abbrev pub decreases-of_changes : goal.decreases-of_changes
decreases-of_changes g l = length l.changes.now
