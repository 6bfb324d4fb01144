use Rattle.tx_apply.proofs.Prelude.{length}
use Rattle.tx_apply.proofs.preconditions.+have_duplicates.Given as goal

abbrev pub decreases-have_duplicates : goal.decreases-have_duplicates
decreases-have_duplicates l = length l.keys.now
