use Rattle.change_stream.proofs.Prelude.{into_iter_items, map, ◌++◌, ◌≡◌}
use Rattle.change_stream.proofs.sorting.without_keys.Given as goal

-- the changes so far, which the others follow
abbrev pub invariant-loop-item : goal.invariant-loop-item
invariant-loop-item l = record {
  made : l.changes.items ≡ map (λ k. k.change) l.yielded;
  left : l.yielded ++ into_iter_items l.item-iterator ≡ l.fn.keyed.items;
}
