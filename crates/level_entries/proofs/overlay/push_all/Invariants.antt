use Rattle.level_entries.proofs.Prelude.{◌≡◌, ◌++◌, take}
use Rattle.level_entries.proofs.overlay.push_all.Given as goal

abbrev pub invariant-loop-item : goal.invariant-loop-item
invariant-loop-item l = l.row.items ≡ l.fn.row.items ++ take l.item-index l.items
