use Rattle.legal_rules.proofs.consequences.signers_few.Goals as goal
use Rattle.legal_rules.proofs.LegalConsequences.{signers_few}

pub returns : goal.returns
returns c = signers_few
