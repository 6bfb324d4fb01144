use Rattle.image_rules.proofs.Prelude.{on_ok_weaker, for_account, owner_is_paid}
use Rattle.image_rules.proofs.Counting.{added_both}
use Rattle.image_rules.proofs.Naming.{sponsored_sum}
use Rattle.image_rules.proofs.aggregates.add_paid_for.Goals as goal

pub returns : goal.returns
returns c =
    let e = c.args.entry.now in
    let owner = c.other_owner-owner.result in
    on_ok_weaker c.add_for-2.result
    (added_both c.args.tally.now c.add_for.new.tally c.add_for-2.new.tally
    (λ k. for_account k owner c.paid_for.result) (λ k. for_account k owner c.sponsored_signers.result)
    (λ k. owner_is_paid k e)
    (λ k. sponsored_sum k e owner c.paid_for.result c.sponsored_signers.result c.other_owner-owner.ensures
    c.paid_for.ensures c.sponsored_signers.ensures) c.in_ok-add_for.ensures) c.add_for-2.ensures
