use Rattle.gate_journal.proofs.Prelude.{All-nil, All-push, All, length-append, List, ℕ, length, drop, sym, ◌∙◌, ap}
use Rattle.gate_journal.proofs.Prelude.{subst, arith, ◌+◌, Ok, Some, Image, max_record, block, blocks, IsShut}
use Rattle.gate_journal.proofs.Prelude.{ReportsBroken, ReportsRecord}
use Rattle.std.specs.Prelude.{◌≤◌}
use Rattle.gate_journal.proofs.Staying.{stays_none, stays_more}
use Rattle.gate_journal.proofs.Records.{blocks_push, ReadTo, read_none, read_one, read_all, read_broken, fault_since}
use Rattle.gate_journal.proofs.reading.read_records.Goals as goal

abbrev IsShort : List ℕ → Type 0
IsShort bytes = length bytes ≤ max_record

abbrev AreShort : List (List ℕ) → Type 0
AreShort records = All IsShort records

pub loop-fault-init : goal.loop-fault-init
loop-fault-init g c = record {
  read = λ reported. subst (λ records. ReadTo ((g.V.Volume.disk c.args.vol.now).reads c.args.file) records 0)
      (sym c.new-records.ensures)
      (read_none ((g.V.Volume.disk c.args.vol.now).reads c.args.file));
  stays = stays_none (g.V.Volume.disk c.args.vol.now);
  later = omega arith;
  within = omega arith;
  short = subst AreShort (sym c.new-records.ensures) (All-nil IsShort);
  offset = ap (λ records. length (blocks records)) (sym c.new-records.ensures);
}

pub next_record-requires-clause-size : goal.next_record-requires-clause-size
next_record-requires-clause-size g c = λ reported. c.requires.size reported
    ∙ ap (λ (f : Image). length (f c.args.file)) (sym c.loop-fault.invariant.stays.reads)

pub returns-in-Err-clause-reported : goal.returns-in-Err-clause-reported
returns-in-Err-clause-reported g c = λ reported.
    let file = (g.V.Volume.disk c.args.vol.now).reads c.args.file in
    let end = c.loop-fault.end in
    let same = ap (λ (f : Image). drop end (f c.args.file)) c.loop-fault.invariant.stays.reads in
    read_broken c.args.file file c.loop-fault.records end c.in-Err.fault (c.loop-fault.invariant.read reported)
    (subst (λ (rest : List ℕ). ReportsBroken c.args.file end rest c.in-Err.fault) same
    (c.in-Err.ensures.reported reported))

pub returns-in-Err-clause-stays : goal.returns-in-Err-clause-stays
returns-in-Err-clause-stays g c =
    stays_more (g.V.Volume.disk c.args.vol.now) (g.V.Volume.disk c.loop-fault.vol)
    (g.V.Volume.disk c.next_record.new.vol)
    c.loop-fault.invariant.stays c.next_record.ensures.stays

pub returns-in-Err-clause-cause : goal.returns-in-Err-clause-cause
returns-in-Err-clause-cause g c = (
  omega (arith, c.loop-fault.invariant.later, c.in-Err.ensures.cause.0),
  fault_since (g.V.Volume.faults c.args.vol.now) (g.V.Volume.faults c.loop-fault.vol)
      (g.V.Volume.faults c.next_record.new.vol) c.in-Err.fault
      c.loop-fault.invariant.later c.in-Err.ensures.cause.1,
)

pub returns-in-Ok-None-clause-reported : goal.returns-in-Ok-None-clause-reported
returns-in-Ok-None-clause-reported g c = λ reported.
    let file = (g.V.Volume.disk c.args.vol.now).reads c.args.file in
    let end = c.loop-fault.end in
    let same = ap (λ (f : Image). drop end (f c.args.file)) c.loop-fault.invariant.stays.reads in
    let read = c.loop-fault.invariant.read reported in
    let shut = subst IsShut same (rw c.in-Ok-None.field-0-is at (c.in-Ok-None.ensures.reported reported)) in
    (read_all file c.loop-fault.records end read shut, read.offset)

pub returns-in-Ok-None-clause-stays : goal.returns-in-Ok-None-clause-stays
returns-in-Ok-None-clause-stays g c =
    stays_more (g.V.Volume.disk c.args.vol.now) (g.V.Volume.disk c.loop-fault.vol)
    (g.V.Volume.disk c.next_record.new.vol)
    c.loop-fault.invariant.stays c.next_record.ensures.stays

pub returns-in-Ok-None-clause-cause : goal.returns-in-Ok-None-clause-cause
returns-in-Ok-None-clause-cause g c = omega (arith, c.loop-fault.invariant.later, c.in-Ok-None.ensures.cause)

pub returns-in-Err-push-clause-stays : goal.returns-in-Err-push-clause-stays
returns-in-Err-push-clause-stays g c =
    stays_more (g.V.Volume.disk c.args.vol.now) (g.V.Volume.disk c.loop-fault.vol)
    (g.V.Volume.disk c.next_record.new.vol)
    c.loop-fault.invariant.stays c.next_record.ensures.stays

pub returns-in-Err-push-clause-cause : goal.returns-in-Err-push-clause-cause
returns-in-Err-push-clause-cause g c = (omega (arith, c.loop-fault.invariant.later, c.in-Ok-Some.ensures.cause), tt)

pub loop-fault-smaller : goal.loop-fault-smaller
loop-fault-smaller g c =
    let within = rw c.in-Ok-Some.field-0-is at c.in-Ok-Some.ensures.within in
    omega (arith, within.1, c.len.ensures, ap length c.in-Ok-Some.record-is)

pub loop-fault-preserved : goal.loop-fault-preserved
loop-fault-preserved g c =
    let within = rw c.in-Ok-Some.field-0-is at c.in-Ok-Some.ensures.within in
    record {
      read = λ reported.
          let file = (g.V.Volume.disk c.args.vol.now).reads c.args.file in
          let end = c.loop-fault.end in
          let same = ap (λ (f : Image). drop end (f c.args.file)) c.loop-fault.invariant.stays.reads in
          let there = subst (λ (rest : List ℕ). ReportsRecord c.args.file end rest (Ok (Some c.in-Ok-Some.record))) same
          (rw c.in-Ok-Some.field-0-is at (c.in-Ok-Some.ensures.reported reported)) in
          subst (λ records. ReadTo file records (end + (5 + c.len.result))) (sym c.in-Ok.ensures.ok)
          (read_one file c.loop-fault.records c.in-Ok-Some.record end (end + (5 + c.len.result))
          (c.loop-fault.invariant.read reported) there.0 there.1
          (ap (λ (n : ℕ). end + (5 + n)) c.len.ensures));
      stays = stays_more (g.V.Volume.disk c.args.vol.now) (g.V.Volume.disk c.loop-fault.vol)
          (g.V.Volume.disk c.next_record.new.vol)
          c.loop-fault.invariant.stays c.next_record.ensures.stays;
      later = omega (arith, c.loop-fault.invariant.later, c.in-Ok-Some.ensures.cause);
      within = omega (arith, within.1, c.len.ensures);
      short = subst AreShort (sym c.in-Ok.ensures.ok)
          (All-push IsShort c.loop-fault.records c.in-Ok-Some.record c.loop-fault.invariant.short
          (rw c.in-Ok-Some.field-0-is at c.in-Ok-Some.ensures.short));
      offset = omega (
        arith,
        c.loop-fault.invariant.offset,
        c.len.ensures,
        ap length (blocks_push c.loop-fault.records c.in-Ok-Some.record),
        length-append (blocks c.loop-fault.records) (block c.in-Ok-Some.record),
      )
          ∙ ap (λ records. length (blocks records)) (sym c.in-Ok.ensures.ok);
    }
