use Rattle.op_pool.proofs.Prelude.{◌≡◌, sym, subst, rules, neg_ℤ, map_with_shares, DoPaymentsFit}
use Rattle.op_pool.proofs.withdraw.store_withdrawal.Goals as goal

pub pay_both-requires : goal.pay_both-requires
pay_both-requires g c =
    let id = c.args.ctx.now.op_source in
    let params = c.args.pool.pool.params in
    let part = c.args.part in
    let op = c.args.op.now in
    let now : c.store_shares.new.entries.current
    ≡ map_with_shares id op.pool_id (neg_ℤ part.a) (neg_ℤ part.b) (neg_ℤ op.amount) c.args.entries.now.current =
    search rules in
    let fits = subst (DoPaymentsFit id params part.a part.b) (sym now) c.requires.fits.payments in
    search (rules, fits)
