use Rattle.gate_journal.proofs.Prelude.{◌≡◌, ◌≤◌, ◌-◌, length, take, drop, Stays}
use Rattle.gate_journal.proofs.reading.read_exact.Given as goal

abbrev pub invariant-loop-done : goal.invariant-loop-done
invariant-loop-done g l = record {
  within : l.done ≤ length l.buf;
  bytes : g.V.Volume.reports
      → take l.done l.buf ≡ take l.done (drop l.at ((g.V.Volume.disk l.initial.vol).reads l.file));
  stays : Stays (g.V.Volume.disk l.initial.vol) (g.V.Volume.disk l.vol);
  later : g.V.Volume.faults l.initial.vol ≤ g.V.Volume.faults l.vol;
}

abbrev pub decreases-loop-done : goal.decreases-loop-done
decreases-loop-done g l = length l.buf - l.done
