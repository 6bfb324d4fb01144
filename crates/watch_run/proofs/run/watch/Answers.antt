use Rattle.watch_run.proofs.Prelude.{seen}
use Rattle.watch_run.proofs.Endings.{did_watch}
use Rattle.watch_run.proofs.run.watch.Goals as goal

pub returns : goal.returns
returns g c =
    let it = c.watch_started-end in
    did_watch c.args.network.now c.args.readers c.args.account
    (seen g.I.Source.left g.I.Source.faults c.args.input.now it.new.input)
    (seen g.O.Sink.taken g.O.Sink.faults c.args.out.now it.new.out)
    (seen g.E.Sink.taken g.E.Sink.faults c.args.err.now c.report.new.err) it.result c.report.result it.ensures
    c.report.ensures
