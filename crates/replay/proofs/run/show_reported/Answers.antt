use Rattle.replay.proofs.Prelude.{seen, seen_volume}
use Rattle.replay.proofs.Showing.{did_show}
use Rattle.replay.proofs.run.show_reported.Goals as goal

pub returns : goal.returns
returns g c =
    let it = c.show-end in
    did_show (seen g.O.Sink.taken g.O.Sink.faults c.args.out.now it.new.out)
    (seen g.E.Sink.taken g.E.Sink.faults c.args.err.now c.report.new.err)
    (seen_volume g.V.Volume.reports g.V.Volume.disk g.V.Volume.faults c.args.vol.now it.new.vol) it.result
    c.report.result
    it.ensures c.report.ensures
