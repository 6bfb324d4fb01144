use Rattle.image_rules.proofs.Prelude.{refl, sym, ap, ◌∙◌, count_by, is_there, count_of_no_sponsors}
use Rattle.image_rules.proofs.Naming.{unsponsored}
use Rattle.image_rules.proofs.parts.sponsored_signers.Goals as goal

pub returns-in-None : goal.returns-in-None
returns-in-None c =
    let a = c.in-Account.account in
    sym (ap (count_by is_there) (unsponsored c.args.body.now a c.in-Account.is (sym c.in-None.ensures))
    ∙ count_of_no_sponsors is_there a.signers refl)
