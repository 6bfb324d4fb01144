use Rattle.replay.proofs.Prelude.{seen, Appends-nil}
use Rattle.replay.proofs.WritingFiles.{did_not_write, did_write}
use Rattle.replay.proofs.files.write_file.Goals as goal

pub returns-in-Ok : goal.returns-in-Ok
returns-in-Ok g c =
    did_write g.F.Gather.kind c.args.passphrase.now c.in-Ok.field-0.ledger.state c.in-Ok.field-0.at
    c.start.new.ahead.items
    (seen g.I.Source.left g.I.Source.faults c.args.input.now c.start.new.input)
    (seen g.O.Sink.taken g.O.Sink.faults c.args.out.now c.write_closes.new.out)
    (seen g.E.Sink.taken g.E.Sink.faults c.args.err.now c.write_closes.new.err)
    (g.I.Source.left c.write_closes.new.input) (g.I.Source.faults c.write_closes.new.input) c.write_closes.result
    c.in-Ok.ensures c.write_closes.ensures

pub returns : goal.returns
returns g c =
    did_not_write g.F.Gather.kind c.args.passphrase.now
    (seen g.I.Source.left g.I.Source.faults c.args.input.now c.start.new.input)
    (seen g.O.Sink.taken g.O.Sink.faults c.args.out.now c.args.out.now)
    (seen g.E.Sink.taken g.E.Sink.faults c.args.err.now c.report.new.err) c.in-Err.end c.report.result c.in-Err.ensures
    (Appends-nil (g.O.Sink.taken c.args.out.now)) c.report.ensures
