use Rattle.replay.proofs.Prelude.{seen}
use Rattle.replay.proofs.SampleReporting.{did_sample}
use Rattle.replay.proofs.run.sample_reported.Goals as goal

pub returns : goal.returns
returns g c =
    let it = c.sample-end in
    did_sample c.args.seed c.args.ledgers (seen g.O.Sink.taken g.O.Sink.faults c.args.out.now it.new.out)
    (seen g.E.Sink.taken g.E.Sink.faults c.args.err.now c.report.new.err) it.result c.report.result it.ensures
    c.report.ensures
