use Rattle.entry_map.proofs.Prelude.{◌≡◌, ◌++◌, map, into_iter_items}
use Rattle.entry_map.proofs.Layers.{with_key}
use Rattle.entry_map.proofs.map_base.MapBase.from_entries.Given as goal

-- the pairs of the entries so far, which the others follow
abbrev pub invariant-loop-entry : goal.invariant-loop-entry
invariant-loop-entry l = record {
  made : l.pairs.items ≡ map with_key l.yielded;
  left : l.yielded ++ into_iter_items l.entry-iterator ≡ l.fn.entries.items;
}
