use Rattle.op_pool.proofs.Prelude.{sym, subst, rules, DoesPaymentFit}
use Rattle.op_pool.proofs.holdings.pay_asset.Goals as goal

pub pay-requires : goal.pay-requires
pay-requires g c =
    let fits = subst (λ k. DoesPaymentFit c.args.entries.now.current k c.args.amount) (sym c.location_of.ensures)
    c.requires in
    search (rules, fits)
