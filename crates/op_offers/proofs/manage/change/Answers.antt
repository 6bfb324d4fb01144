use Rattle.op_offers.proofs.Prelude.{sym, subst, ap, Undo, entry_of_offer, IsSellable, IsLimitLow, old_asked}
use Rattle.op_offers.proofs.Begun.{sells_low, buys_low}
use Rattle.op_offers.proofs.Loaded.{old_priced, old_amount, old_fits, changed_sellable}
use Rattle.op_offers.proofs.manage.change.Goals as goal

pub take_out-requires-clause-priced : goal.take_out-requires-clause-priced
take_out-requires-clause-priced g c = old_priced c.args.ctx.now c.args.ask.now c.args.entries.now.current
    c.requires.manageable c.args.old.now c.requires.exists

pub take_out-requires-clause-amount : goal.take_out-requires-clause-amount
take_out-requires-clause-amount g c = old_amount c.args.ctx.now c.args.ask.now c.args.entries.now.current
    c.requires.manageable c.args.old.now c.requires.exists

pub take_out-requires-clause-fits : goal.take_out-requires-clause-fits
take_out-requires-clause-fits g c = old_fits c.args.ctx.now c.args.ask.now c.args.entries.now.current
    c.requires.manageable c.args.old.now c.requires.exists

pub sell-requires-clause-limits : goal.sell-requires-clause-limits
sell-requires-clause-limits g c = record {
  sells = subst IsLimitLow (sym c.old_asked-asked.ensures.sells) (sells_low c.args.ask.now c.requires.sound);
  buys = subst IsLimitLow (sym c.old_asked-asked.ensures.buys) (buys_low c.args.ask.now c.requires.sound);
}

pub sell-requires-clause-sellable : goal.sell-requires-clause-sellable
sell-requires-clause-sellable g c =
    let out = ap (λ (u : Undo). u.current) c.in_ok-take_out.ensures in
    subst (λ asked. IsSellable asked c.take_out.new.entries.current) (sym c.old_asked-asked.ensures.value)
    (subst (IsSellable (old_asked c.args.ctx.now c.args.ask.now c.args.old.now.offer (entry_of_offer c.args.old.now)))
    (sym out)
    (changed_sellable c.args.ctx.now c.args.ask.now c.args.entries.now.current c.requires.manageable c.args.old.now
    c.requires.exists c.requires.sound c.in_ok-test_lines.ensures.0 c.in_ok-test_lines.ensures.1))
