use Rattle.archive_files.proofs.Prelude.{AreKept, length}
use Rattle.archive_files.specs.Records.{fact_at}
use Rattle.archive_files.specs.Screening.{AreScreenedUpTo}
use Rattle.archive_files.proofs.screening.read_screened.Given as goal

abbrev pub invariant-loop-ahead : goal.invariant-loop-ahead
invariant-loop-ahead g l = record {
  kept : AreKept l.screened.facts.items l.screened.last;
  screened : AreScreenedUpTo (fact_at g.K.RecordKind.format g.K.RecordKind.fact_of) l.file l.ahead l.numbers l.screened;
}

abbrev pub decreases-loop-ahead : goal.decreases-loop-ahead
decreases-loop-ahead g l = length l.ahead.rest
