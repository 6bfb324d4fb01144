use Rattle.level_entries.proofs.Prelude.{length}
use Rattle.level_entries.proofs.levels.+row_of.Given as goal

abbrev pub decreases-row_of : goal.decreases-row_of
decreases-row_of l = length l.pairs.now
