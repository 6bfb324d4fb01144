use Rattle.fresh_bucket.proofs.Prelude.{◌≡◌, take, map, gone, items_at}
use Rattle.fresh_bucket.proofs.items.gone_row.Given as goal

abbrev pub invariant-loop-key : goal.invariant-loop-key
invariant-loop-key l = items_at l.row.items ≡ map gone (take l.key-index l.keys)
