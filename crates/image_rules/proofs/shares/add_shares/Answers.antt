use Rattle.image_rules.proofs.Prelude.{on_ok_weaker, pos, for_key, shares_in}
use Rattle.image_rules.proofs.Counting.{added_as}
use Rattle.image_rules.proofs.Naming.{shared_at}
use Rattle.image_rules.proofs.shares.add_shares.Goals as goal

pub returns-in-TrustLine : goal.returns-in-TrustLine
returns-in-TrustLine c =
    let named = c.pool_named-named.result in
    on_ok_weaker c.add_at.result
    (added_as c.args.tally.now c.add_at.new.tally (λ k. for_key k named (pos c.balance_of.result))
    (λ k. shares_in k c.args.body.now)
    (λ k. shared_at k c.args.body.now c.in-TrustLine.line named c.balance_of.result c.in-TrustLine.is
    c.pool_named-named.ensures c.balance_of.ensures)) c.add_at.ensures
