use Rattle.op_payment.proofs.Prelude.{length}
use Rattle.op_payment.proofs.path.+send.Given as goal

abbrev pub decreases-send : goal.decreases-send
decreases-send g l = length l.path.now
