use Rattle.replay.proofs.Prelude.{seen, seen_volume}
use Rattle.replay.proofs.Asking.{did_path}
use Rattle.replay.proofs.path.path.Goals as goal

pub returns : goal.returns
returns g c =
    let it = c.ask-end in
    did_path (seen g.I.Source.left g.I.Source.faults c.args.input.now it.new.input)
    (seen g.O.Sink.taken g.O.Sink.faults c.args.out.now it.new.out)
    (seen g.E.Sink.taken g.E.Sink.faults c.args.err.now c.report.new.err)
    (seen_volume g.V.Volume.reports g.V.Volume.disk g.V.Volume.faults c.args.vol.now it.new.vol) it.result
    c.report.result it.ensures c.report.ensures
