use Rattle.shared_tree.proofs.Prelude.{◌+◌, length}
use Rattle.shared_tree.proofs.tree.Tree.+chained.Given as goal

abbrev pub decreases-chained : goal.decreases-chained
decreases-chained g l = length l.before.now + length l.after.now
