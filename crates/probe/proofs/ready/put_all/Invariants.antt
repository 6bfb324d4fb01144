use Rattle.probe.proofs.Prelude.{IsReadyLedger}
use Rattle.probe.proofs.ready.put_all.Given as goal

abbrev pub invariant-loop-entry : goal.invariant-loop-entry
invariant-loop-entry l = IsReadyLedger l.are_plain l.entries.current
