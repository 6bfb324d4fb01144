use Rattle.replay.proofs.Prelude.{seen, seen_volume}
use Rattle.replay.proofs.StoredTellings.{did_run}
use Rattle.replay.proofs.run.run_reported.Goals as goal

pub returns : goal.returns
returns g c =
    let r = c.run_stored-end in
    did_run (seen g.I.Source.left g.I.Source.faults c.args.input.now r.new.input)
    (seen g.O.Sink.taken g.O.Sink.faults c.args.out.now r.new.out)
    (seen g.E.Sink.taken g.E.Sink.faults c.args.err.now c.report.new.err)
    (seen_volume g.V.Volume.reports g.V.Volume.disk g.V.Volume.faults c.args.vol.now r.new.vol) r.result c.report.result
    (λ x left. g.met.V.Volume.only_now c.args.vol.now x left) (λ te. g.met.V.Volume.reads_now r.new.vol te)
    r.ensures c.report.ensures
