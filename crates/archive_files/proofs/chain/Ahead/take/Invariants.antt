use Rattle.archive_files.proofs.Prelude.{IsAheadFor, length}
use Rattle.archive_files.proofs.chain.Ahead.take.Given as goal

abbrev pub invariant-loop-self : goal.invariant-loop-self
invariant-loop-self l = IsAheadFor l.seq l.fn.self.rest.now l.self.rest.now

abbrev pub decreases-loop-self : goal.decreases-loop-self
decreases-loop-self l = length l.self.rest.now
