use Rattle.replay.proofs.Prelude.{seen, seen_volume}
use Rattle.replay.proofs.Initing.{did_init}
use Rattle.replay.proofs.run.init_reported.Goals as goal

pub returns : goal.returns
returns g c =
    let m = c.make-end in
    did_init c.args.network.now
    (seen g.I.Source.left g.I.Source.faults c.args.input.now m.new.input)
    (seen g.E.Sink.taken g.E.Sink.faults c.args.err.now c.report.new.err)
    (seen_volume g.V.Volume.reports g.V.Volume.disk g.V.Volume.faults c.args.vol.now m.new.vol)
    m.result c.report.result m.ensures.made m.ensures.no_write c.report.ensures
