use Rattle.entry_table.proofs.Prelude.{◌≡◌, ◌++◌, take}
use Rattle.entry_table.proofs.rows.push_all.Given as goal

abbrev pub invariant-loop-value : goal.invariant-loop-value
invariant-loop-value g l = l.row.items ≡ l.fn.row.items ++ take l.value-index l.values
