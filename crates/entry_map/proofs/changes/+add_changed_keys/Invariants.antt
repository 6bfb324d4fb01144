use Rattle.entry_map.proofs.Prelude.{length}
use Rattle.entry_map.proofs.changes.+add_changed_keys.Given as goal

abbrev pub decreases-add_changed_keys : goal.decreases-add_changed_keys
decreases-add_changed_keys l = length l.layers.now
