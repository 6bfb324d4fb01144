use Rattle.replay.proofs.Prelude.{seen}
use Rattle.replay.proofs.Tellings.{did_catch_up, reported_or_refused}
use Rattle.replay.proofs.run.catch_up_reported.Goals as goal

pub returns : goal.returns
returns g c =
    did_catch_up c.args.network.now
    (seen g.I.Source.left g.I.Source.faults c.args.input.now c.catch_up-end.new.input)
    (seen g.O.Sink.taken g.O.Sink.faults c.args.out.now c.catch_up-end.new.out)
    (seen g.E.Sink.taken g.E.Sink.faults c.args.err.now c.report.new.err) c.catch_up-end.result c.report.result
    c.catch_up-end.ensures
    (reported_or_refused c.catch_up-end.result (seen g.E.Sink.taken g.E.Sink.faults c.args.err.now c.report.new.err)
    c.report.result c.report.ensures)
