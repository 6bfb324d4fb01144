use Rattle.fresh_bucket.proofs.Prelude.{◌≡◌, take, map, made, items_at}
use Rattle.fresh_bucket.proofs.items.made_row.Given as goal

abbrev pub invariant-loop-entry : goal.invariant-loop-entry
invariant-loop-entry l = items_at l.row.items ≡ map made (take l.entry-index l.entries)
