use Rattle.tx_apply.proofs.Prelude.{length}
use Rattle.tx_apply.proofs.signing.+check_operations.Given as goal

abbrev pub decreases-check_operations : goal.decreases-check_operations
decreases-check_operations g l = length l.operations.now
