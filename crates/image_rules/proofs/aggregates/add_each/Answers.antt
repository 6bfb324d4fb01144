use Rattle.image_rules.proofs.Prelude.{None, ◌+◌, take, get_or, for_account, for_each}
use Rattle.image_rules.proofs.Counting.{added_both}
use Rattle.image_rules.proofs.Naming.{for_each_more}
use Rattle.image_rules.proofs.aggregates.add_each.Goals as goal

pub loop-id-preserved : goal.loop-id-preserved
loop-id-preserved c =
    let ids = c.args.ids.now in
    let i = c.loop-id.id-index in
    added_both c.args.tally.now c.loop-id.tally c.add_for.new.tally (λ k. for_each k (take i ids))
    (λ k. for_account k (get_or ids i None) 1) (λ k. for_each k (take (i + 1) ids))
    (λ k. for_each_more k ids i None c.loop-id-test.true) c.loop-id.invariant c.in_ok-add_for.ensures
