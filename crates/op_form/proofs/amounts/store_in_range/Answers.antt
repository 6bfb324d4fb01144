use Rattle.op_form.proofs.Prelude.{sym, subst, on_ok_weaker, entry_of_line, BalancesAreInRange}
use Rattle.op_form.proofs.Balances.{balances_put, line_only}
use Rattle.op_form.proofs.amounts.store_in_range.Goals as goal

pub returns-clause-in_range : goal.returns-clause-in_range
returns-clause-in_range g c = on_ok_weaker c.store_line.result
    (λ is. subst (λ u. BalancesAreInRange u.current) (sym is)
    (balances_put c.args.entries.now.current (entry_of_line c.args.slot)
    (line_only c.args.slot.line c.requires.in_range)
    c.requires.others))
    c.store_line.ensures
