use Rattle.tx_apply.proofs.Prelude.{length}
use Rattle.tx_apply.proofs.preauths.+remove_preauths.Given as goal

abbrev pub decreases-remove_preauths : goal.decreases-remove_preauths
decreases-remove_preauths g l = length l.operations.now
