use Rattle.shared_tree.proofs.Prelude.{◌+◌, length}
use Rattle.shared_tree.proofs.tree.Tree.+linked.Given as goal

abbrev pub decreases-linked : goal.decreases-linked
decreases-linked g l = length l.before.now + length l.after.now
