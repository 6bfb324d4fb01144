use Rattle.op_offers.proofs.Prelude.{sym, subst, IsSellable, IsLimitLow}
use Rattle.op_offers.proofs.Begun.{made_sellable, sells_low, buys_low}
use Rattle.op_offers.proofs.manage.make.Goals as goal

pub sell-requires-clause-limits : goal.sell-requires-clause-limits
sell-requires-clause-limits g c = record {
  sells = subst IsLimitLow (sym c.new_asked-asked.ensures.sells) (sells_low c.args.ask.now c.requires.sound);
  buys = subst IsLimitLow (sym c.new_asked-asked.ensures.buys) (buys_low c.args.ask.now c.requires.sound);
}

pub sell-requires-clause-sellable : goal.sell-requires-clause-sellable
sell-requires-clause-sellable g c =
    subst (λ asked. IsSellable asked c.count_reserve.new.entries.current) (sym c.new_asked-asked.ensures.value)
    (made_sellable c.args.ctx.now c.args.entries.now.current c.requires.manageable c.args.ask.now c.requires.sound
    c.in_ok-test_lines.ensures.0 c.in_ok-test_lines.ensures.1 c.count_reserve.new.entries.current
    c.in_ok-count_reserve.ensures.0)
