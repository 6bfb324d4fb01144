use Rattle.op_payment.proofs.Prelude.{length}
use Rattle.op_payment.proofs.path_payment.+are_valid.Given as goal

abbrev pub decreases-are_valid : goal.decreases-are_valid
decreases-are_valid l = length l.path.now
