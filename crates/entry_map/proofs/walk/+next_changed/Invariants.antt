use Rattle.entry_map.proofs.Prelude.{length}
use Rattle.entry_map.proofs.walk.+next_changed.Given as goal

abbrev pub decreases-next_changed : goal.decreases-next_changed
decreases-next_changed l = length l.layers.now
