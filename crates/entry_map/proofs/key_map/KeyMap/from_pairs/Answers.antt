use Rattle.entry_map.proofs.KeyMaps.{seen_from_pairs}
use Rattle.entry_map.proofs.key_map.KeyMap.from_pairs.Goals as goal

pub returns : goal.returns
returns g c = seen_from_pairs c.args.pairs.items c.in_ok-tree_of.field-0 c.in_ok-tree_of.ensures c.requires
