use Rattle.entry_map.proofs.Prelude.{length}
use Rattle.entry_map.proofs.lookup.+change_in.Given as goal

abbrev pub decreases-change_in : goal.decreases-change_in
decreases-change_in l = length l.layers.now
