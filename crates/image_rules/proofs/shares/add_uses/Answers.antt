use Rattle.image_rules.proofs.Prelude.{on_ok_weaker, uses_by, uses, pools_in}
use Rattle.image_rules.proofs.Counting.{added_as}
use Rattle.image_rules.proofs.Naming.{used_at}
use Rattle.image_rules.proofs.shares.add_uses.Goals as goal

pub returns-in-TrustLine : goal.returns-in-TrustLine
returns-in-TrustLine c =
    let pools = pools_in c.args.entries.now in
    let t = c.in-TrustLine.line in
    on_ok_weaker c.add_uses_by.result
    (added_as c.args.tally.now c.add_uses_by.new.tally (λ k. uses_by pools k t.account_id t.asset)
    (λ k. uses pools k c.args.body.now) (λ k. used_at k pools c.args.body.now t c.in-TrustLine.is))
    c.add_uses_by.ensures
