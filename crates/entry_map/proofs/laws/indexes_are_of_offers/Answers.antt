use Rattle.entry_map.proofs.Rebuilt.{indexes_of_offers}
use Rattle.entry_map.proofs.laws.indexes_are_of_offers.Goals as goal

pub returns : goal.returns
returns c = indexes_of_offers
