use Rattle.replay.proofs.Prelude.{◌≡◌, HasReached}
use Rattle.replay.proofs.sample.sample.Given as goal

-- so many records have closed ledgers, and nothing was written
abbrev pub invariant-loop-closed : goal.invariant-loop-closed
invariant-loop-closed g l = record {
  reached : HasReached l.seed l.closed l.sampled.ledger.state l.sampled.transactions l.sampled.successes;
  out : l.out ≡ l.initial.out;
}
