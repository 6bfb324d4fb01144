use Rattle.archive_files.proofs.Prelude.{AreFacts, header_at, length, start_of}
use Rattle.archive_files.proofs.records.read_headers.Given as goal

abbrev pub invariant-loop-ahead : goal.invariant-loop-ahead
invariant-loop-ahead l = AreFacts header_at l.facts.items (start_of l.file) l.ahead

abbrev pub decreases-loop-ahead : goal.decreases-loop-ahead
decreases-loop-ahead l = length l.ahead.rest
