use Rattle.entry_table.proofs.Turns.{nothing_left}
use Rattle.entry_table.proofs.Passes.{pass_ended}
use Rattle.entry_table.proofs.rows.overlay.Goals as goal

pub returns : goal.returns
returns g c = pass_ended c.loop-ahead.ahead.now c.args.older.now c.args.newer.now c.loop-ahead.turns.now
    c.loop-ahead.all.items c.push_all.new.row.items c.loop-ahead.invariant.same
    (nothing_left c.loop-ahead.ahead.now c.loop-ahead-test.false) c.loop-ahead.invariant.turns_rise
    c.in_ok-push_all.ensures c.requires.older
