use Rattle.gate_journal.proofs.Prelude.{◌≡◌, ◌≤◌, ◌-◌, length, All, Stays, max_record, blocks}
use Rattle.gate_journal.proofs.Records.{ReadTo}
use Rattle.gate_journal.proofs.reading.read_records.Given as goal

abbrev pub invariant-loop-fault : goal.invariant-loop-fault
invariant-loop-fault g l = record {
  read : g.V.Volume.reports → ReadTo ((g.V.Volume.disk l.initial.vol).reads l.file) l.records l.end;
  stays : Stays (g.V.Volume.disk l.initial.vol) (g.V.Volume.disk l.vol);
  later : g.V.Volume.faults l.initial.vol ≤ g.V.Volume.faults l.vol;
  within : l.end ≤ l.size;
  short : All (λ bytes. length bytes ≤ max_record) l.records;
  offset : l.end ≡ length (blocks l.records);
}

abbrev pub decreases-loop-fault : goal.decreases-loop-fault
decreases-loop-fault g l = l.size - l.end
