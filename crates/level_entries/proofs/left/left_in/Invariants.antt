use Rattle.level_entries.proofs.Prelude.{◌≡◌, take, left_in}
use Rattle.level_entries.proofs.left.left_in.Given as goal

abbrev pub invariant-loop-item : goal.invariant-loop-item
invariant-loop-item l = l.left.items ≡ left_in (take l.item-index l.row)
