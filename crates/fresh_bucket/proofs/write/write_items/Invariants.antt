use Rattle.fresh_bucket.proofs.Prelude.{◌≡◌, ◌++◌, take, map, flat_map, record_of, items_at}
use Rattle.fresh_bucket.proofs.write.write_items.Given as goal

-- the records of the items so far
abbrev pub invariant-loop-kept : goal.invariant-loop-kept
invariant-loop-kept l = l.file ≡ l.fn.file ++ flat_map record_of (map (λ x. x.1) (items_at (take l.kept-index l.row)))
