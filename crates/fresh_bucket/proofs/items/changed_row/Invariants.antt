use Rattle.fresh_bucket.proofs.Prelude.{◌≡◌, take, map, changed, items_at}
use Rattle.fresh_bucket.proofs.items.changed_row.Given as goal

abbrev pub invariant-loop-entry : goal.invariant-loop-entry
invariant-loop-entry l = items_at l.row.items ≡ map changed (take l.entry-index l.entries)
