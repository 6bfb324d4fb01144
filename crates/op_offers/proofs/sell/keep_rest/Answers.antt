use Rattle.op_offers.proofs.Prelude.{sym, subst, rules, ℤ, IsSellable, DoesRestFit, asked_in}
use Rattle.std.proofs.Common.{unsigned_abs}
use Rattle.op_offers.proofs.Ready.{rest_fits}
use Rattle.op_offers.proofs.sell.keep_rest.Goals as goal

pub keep-requires-clause-fits : goal.keep-requires-clause-fits
keep-requires-clause-fits g c =
    let sellable : IsSellable (asked_in c.args.asked.now) c.settle_source.new.entries.current = search rules in
    let fits = subst (λ (amount : ℤ). DoesRestFit (asked_in c.args.asked.now) (unsigned_abs amount)
    c.settle_source.new.entries.current) (sym c.in_ok-amount.ensures)
    (rest_fits (asked_in c.args.asked.now) c.settle_source.new.entries.current sellable c.args.base_reserve _ _ _) in
    search (rules, fits)
