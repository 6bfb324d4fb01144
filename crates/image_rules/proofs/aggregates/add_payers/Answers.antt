use Rattle.image_rules.proofs.Prelude.{on_ok_weaker, for_account, for_each, signer_sponsors_in, payers_pay}
use Rattle.image_rules.proofs.Counting.{added_both}
use Rattle.image_rules.proofs.Naming.{sponsoring_sum}
use Rattle.image_rules.proofs.aggregates.add_payers.Goals as goal

pub returns : goal.returns
returns c =
    let e = c.args.entry.now in
    on_ok_weaker c.add_signers.result
    (added_both c.args.tally.now c.add_for.new.tally c.add_signers.new.tally
    (λ k. for_account k c.sponsor_in.result c.multiplicity.result) (λ k. for_each k (signer_sponsors_in e.body))
    (λ k. payers_pay k e)
    (λ k. sponsoring_sum k e c.sponsor_in.result c.multiplicity.result c.sponsor_in.ensures c.multiplicity.ensures)
    c.in_ok-add_for.ensures) c.add_signers.ensures
