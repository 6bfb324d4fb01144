use Rattle.replay.proofs.Prelude.{seen}
use Rattle.replay.proofs.Verifying.{did_verify}
use Rattle.replay.proofs.verify.verify_reported.Goals as goal

pub returns : goal.returns
returns g c =
    let it = c.verify_history-end in
    did_verify (seen g.I.Source.left g.I.Source.faults c.args.input.now it.new.input)
    (seen g.O.Sink.taken g.O.Sink.faults c.args.out.now it.new.out)
    (seen g.E.Sink.taken g.E.Sink.faults c.args.err.now c.report.new.err) it.result c.report.result it.ensures
    c.report.ensures
