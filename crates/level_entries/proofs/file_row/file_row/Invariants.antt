use Rattle.level_entries.proofs.Prelude.{◌≡◌, take}
use Rattle.bucket_core.specs.Index.{rows}
use Rattle.level_entries.proofs.file_row.file_row.Given as goal

-- the items so far
abbrev pub invariant-loop-index : goal.invariant-loop-index
invariant-loop-index l = l.row.items ≡ take l.index (rows l.bucket)
