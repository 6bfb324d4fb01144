use Rattle.gate_journal.proofs.Prelude.{ap, ◌+◌}
use Rattle.gate_journal.proofs.Settled.{holds_in, runs_in, settled_after}
use Rattle.gate_journal.proofs.journal.Journal.append.Goals as goal

pub returns-in-Err-clause-runs : goal.returns-in-Err-clause-runs
returns-in-Err-clause-runs g c = λ reported records settled.
    let old = g.V.Volume.disk c.args.vol.now in
    runs_in (record { file = c.self.inside.file; end = c.self.inside.end; failed = c.self.inside.failed })
    c.args.self.now old _ records c.args.buf c.self.view_is
    (c.append_at.ensures.runs reported records
    (holds_in (record { file = c.self.inside.file; end = c.self.inside.end; failed = c.self.inside.failed })
    c.args.self.now old records c.self.view_is settled))

pub returns-clause-ok : goal.returns-clause-ok
returns-clause-ok g c = λ reported records settled.
    let old = g.V.Volume.disk c.args.vol.now in
    let new = g.V.Volume.disk c.append_at.new.vol in
    let holds_records = holds_in (record {
      file = c.self.inside.file;
      end = c.self.inside.end;
      failed =
          c.self.inside.failed;
    }) c.args.self.now old records c.self.view_is settled in
    settled_after c.self.inside.file c.self.inside.end _ c.self.inside.failed old new records c.args.buf holds_records
    (ap (λ n. c.self.inside.end + (5 + n)) c.len.ensures) c.if-self.false c.in-Ok.ensures.safe
    (c.in-Ok.ensures.ok reported records holds_records)

pub returns-clause-runs : goal.returns-clause-runs
returns-clause-runs g c = λ reported records settled.
    let old = g.V.Volume.disk c.args.vol.now in
    runs_in (record { file = c.self.inside.file; end = c.self.inside.end; failed = c.self.inside.failed })
    c.args.self.now old _ records c.args.buf c.self.view_is
    (c.append_at.ensures.runs reported records
    (holds_in (record { file = c.self.inside.file; end = c.self.inside.end; failed = c.self.inside.failed })
    c.args.self.now old records c.self.view_is settled))
