use Rattle.entry_map.proofs.Prelude.{◌≡◌, ◌++◌}
use Rattle.entry_map.proofs.index.rising_row.Given as goal

-- the row so far, which the others follow
abbrev pub invariant-loop-position : goal.invariant-loop-position
invariant-loop-position l = l.row.items ++ l.position-iterator ≡ l.fn.tree.entries
