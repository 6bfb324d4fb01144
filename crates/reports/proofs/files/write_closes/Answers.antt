use Rattle.reports.proofs.Prelude.{RunPosition, seen}
use Rattle.reports.proofs.files.write_closes.Goals as goal

pub returns : goal.returns
returns g c =
    let p : RunPosition = record {
      state = c.args.ledger.now.state;
      at = c.args.start;
      ahead = c.args.ahead.now.items;
    } in
    c.finish.ensures p (seen g.I.Source.left g.I.Source.faults c.args.input.now c.gather_all-stop.new.input)
    c.gather_all-stop.ensures
