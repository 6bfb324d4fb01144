use Rattle.entry_map.proofs.Rebuilt.{stays_right}
use Rattle.entry_map.proofs.laws.an_index_stays_right.Goals as goal

pub returns : goal.returns
returns c = stays_right
