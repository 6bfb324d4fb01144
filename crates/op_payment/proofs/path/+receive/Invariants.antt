use Rattle.op_payment.proofs.Prelude.{length}
use Rattle.op_payment.proofs.path.+receive.Given as goal

abbrev pub decreases-receive : goal.decreases-receive
decreases-receive g l = length l.path.now
