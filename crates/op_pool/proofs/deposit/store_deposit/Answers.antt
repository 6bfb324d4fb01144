use Rattle.op_pool.proofs.Prelude.{◌≡◌, sym, subst, rules, w64, to_z, of_z, neg_ℤ, map_with_shares, DoPaymentsFit}
use Rattle.op_pool.proofs.deposit.store_deposit.Goals as goal

pub pay_both-requires : goal.pay_both-requires
pay_both-requires g c =
    let id = c.args.ctx.now.op_source in
    let params = c.args.pool.pool.params in
    let d = c.args.d in
    let new = c.store_shares.new.entries.current in
    let now : new ≡ map_with_shares id c.args.op.now.pool_id d.a d.b d.shares c.args.entries.now.current =
    search rules in
    let a : to_z w64 (of_z w64 c.turned.result) ≡ neg_ℤ d.a = search rules in
    let b : to_z w64 (of_z w64 c.turned-2.result) ≡ neg_ℤ d.b = search rules in
    subst (λ x. DoPaymentsFit id params x (to_z w64 (of_z w64 c.turned-2.result)) new) (sym a)
    (subst (λ x. DoPaymentsFit id params (neg_ℤ d.a) x new) (sym b)
    (subst (DoPaymentsFit id params (neg_ℤ d.a) (neg_ℤ d.b)) (sym now) c.requires.fits.payments))
