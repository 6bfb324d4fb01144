use Rattle.op_flags.proofs.Prelude.{refl}
use Rattle.op_flags.proofs.Cancelling.{one_further, this_found, all_looked_at}
use Rattle.op_flags.proofs.revoking.cancel_all.Goals as goal

pub loop-entry-init : goal.loop-entry-init
loop-entry-init g c = record {
  crossable = c.requires.crossable;
  found = c.requires.found;
  kept = refl;
  rest = refl;
}

pub loop-entry-preserved : goal.loop-entry-preserved
loop-entry-preserved g c =
    one_further c.args.asset.now c.args.sold.now c.loop-entry.entry-index c.entry-item.result c.args.entries.now
    c.loop-entry.entries c.cancel_trading.new.entries c.loop-entry-test.true c.entry-item.is c.loop-entry.invariant
    c.in_ok-cancel_trading.ensures.entries c.in_ok-cancel_trading.ensures.crossable

pub cancel_trading-requires-clause-crossable : goal.cancel_trading-requires-clause-crossable
cancel_trading-requires-clause-crossable g c = c.loop-entry.invariant.crossable

pub cancel_trading-requires-clause-found : goal.cancel_trading-requires-clause-found
cancel_trading-requires-clause-found g c =
    (this_found c.args.sold.now c.loop-entry.entry-index c.entry-item.result c.loop-entry.entries.current
    c.loop-entry-test.true c.entry-item.is c.loop-entry.invariant.found).there

pub returns : goal.returns
returns g c =
    all_looked_at c.args.asset.now c.args.sold.now c.loop-entry.entry-index c.args.entries.now c.loop-entry.entries
    c.loop-entry-test.false c.loop-entry.invariant
