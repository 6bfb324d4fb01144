use Rattle.image_rules.proofs.Prelude.{refl, sym, ap, ◌∙◌, pos, is_for, for_each, signer_sponsors_in}
use Rattle.image_rules.proofs.Prelude.{count_of_no_sponsors}
use Rattle.image_rules.proofs.Counting.{added_none}
use Rattle.image_rules.proofs.Naming.{unsponsored}
use Rattle.image_rules.proofs.aggregates.add_signers.Goals as goal

pub returns-in-None : goal.returns-in-None
returns-in-None c =
    let a = c.in-Account.account in
    added_none c.args.tally.now (λ k. for_each k (signer_sponsors_in c.args.body.now)) (λ k.
    ap (for_each k) (unsponsored c.args.body.now a c.in-Account.is (sym c.in-None.ensures))
    ∙ ap pos (count_of_no_sponsors (is_for k) a.signers refl))
