use Rattle.image_rules.proofs.Prelude.{refl, sym}
use Rattle.image_rules.proofs.Naming.{others_by_none}
use Rattle.image_rules.proofs.signers.are_payers_others.Goals as goal

pub returns-in-None : goal.returns-in-None
returns-in-None c = (λ _. others_by_none c.args.account.now (sym c.in-None.ensures), λ _. refl)
