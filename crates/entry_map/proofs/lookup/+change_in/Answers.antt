use Rattle.entry_map.proofs.Layers.{keyed_found}
use Rattle.entry_map.proofs.lookup.+change_in.Goals as goal

pub returns-in-None-clause-keyed : goal.returns-in-None-clause-keyed
returns-in-None-clause-keyed t c = keyed_found _ c.args.key.now c.get.result c.get.ensures.keyed c.get.ensures.found
