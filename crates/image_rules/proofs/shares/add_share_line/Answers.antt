use Rattle.image_rules.proofs.Prelude.{on_ok_weaker, pos, for_key, share_lines}
use Rattle.image_rules.proofs.Counting.{added_as}
use Rattle.image_rules.proofs.Naming.{lined_at}
use Rattle.image_rules.proofs.shares.add_share_line.Goals as goal

pub returns-in-TrustLine : goal.returns-in-TrustLine
returns-in-TrustLine c =
    let named = c.pool_named-named.result in
    on_ok_weaker c.add_at.result
    (added_as c.args.tally.now c.add_at.new.tally (λ k. for_key k named (pos 1))
    (λ k. share_lines k c.args.body.now)
    (λ k. lined_at k c.args.body.now c.in-TrustLine.line named c.in-TrustLine.is c.pool_named-named.ensures))
    c.add_at.ensures
