use Rattle.watch_run.proofs.Prelude.{seen, Appends-nil}
use Rattle.watch_run.proofs.Starting.{after_image, barred_watch}
use Rattle.watch_run.proofs.run.watch_started.Goals as goal

pub returns-in-Ok : goal.returns-in-Ok
returns-in-Ok g c =
    let started = c.in-Ok.field-0 in
    let it = c.watch_records in
    after_image c.args.readers c.args.account c.args.network.now started.ledger.state started.at c.start.new.ahead.items
    (seen g.I.Source.left g.I.Source.faults c.args.input.now c.start.new.input)
    (seen g.O.Sink.taken g.O.Sink.faults c.args.out.now it.new.out)
    (g.I.Source.left it.new.input) (g.I.Source.faults it.new.input) c.in-Ok.ensures it.result it.ensures

pub returns : goal.returns
returns g c =
    barred_watch c.args.readers c.args.account c.args.network.now
    (seen g.I.Source.left g.I.Source.faults c.args.input.now c.start.new.input)
    (seen g.O.Sink.taken g.O.Sink.faults c.args.out.now c.args.out.now) c.in-Err.end c.in-Err.ensures
    (Appends-nil (g.O.Sink.taken c.args.out.now))
