use Rattle.ledger_close.proofs.Files.{AreWritten}
use Rattle.ledger_close.proofs.buckets.copy_files.Given as goal

-- the files of the levels so far
abbrev pub invariant-loop-level : goal.invariant-loop-level
invariant-loop-level l = AreWritten l.fn.levels.pairs l.files.items l.level
