use Rattle.image_rules.proofs.Prelude.{on_ok_weaker, uses_of, uses_by, pools_in}
use Rattle.image_rules.proofs.Counting.{added_as}
use Rattle.image_rules.proofs.Naming.{used_by}
use Rattle.image_rules.proofs.shares.add_uses_by.Goals as goal

pub returns-in_ok-params-in-PoolShare : goal.returns-in_ok-params-in-PoolShare
returns-in_ok-params-in-PoolShare c =
    let pools = pools_in c.args.entries.now in
    let id = c.args.id.now in
    let params = c.in_ok-params-in-PoolShare.params in
    on_ok_weaker c.add_uses_in.result
    (added_as c.args.tally.now c.add_uses_in.new.tally (λ k. uses_of k id params)
    (λ k. uses_by pools k id c.args.asset.now)
    (λ k. used_by k pools id c.args.asset.now c.in-PoolShare.pool_id params c.in-PoolShare.is
    c.in_ok-params-in-PoolShare.ensures)) c.add_uses_in.ensures
