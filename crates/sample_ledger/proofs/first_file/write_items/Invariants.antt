use Rattle.sample_ledger.proofs.Prelude.{◌≡◌, ◌++◌, take, flat_map, record_of}
use Rattle.ledger_types.specs.declared.bucket.BucketEntry.TheVariants as item
use Rattle.sample_ledger.proofs.first_file.write_items.Given as goal

abbrev pub invariant-loop-index : goal.invariant-loop-index
invariant-loop-index l =
    l.file ≡ l.initial.file ++ flat_map (λ x. record_of (item.Init x.1)) (take l.index l.rows)
