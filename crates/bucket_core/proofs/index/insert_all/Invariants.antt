use Rattle.std.proofs.Common.{take}
use Rattle.bucket_core.specs.Index.{IsFilter, row_at}
use Rattle.bucket_core.proofs.index.insert_all.Given as goal

abbrev pub invariant-loop-offset : goal.invariant-loop-offset
invariant-loop-offset l = IsFilter l.words (row_at l.file (take l.offset-index l.offsets))
