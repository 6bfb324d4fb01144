use Rattle.op_payment.proofs.Prelude.{length}
use Rattle.op_payment.proofs.carried.+crossings_in.Given as goal

abbrev pub decreases-crossings_in : goal.decreases-crossings_in
decreases-crossings_in l = length l.atoms.now
