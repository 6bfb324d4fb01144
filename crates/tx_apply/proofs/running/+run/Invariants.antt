use Rattle.tx_apply.proofs.Prelude.{length}
use Rattle.tx_apply.proofs.running.+run.Given as goal

abbrev pub decreases-run : goal.decreases-run
decreases-run g l = length l.operations.now
