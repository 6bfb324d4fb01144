use Rattle.legal_rules.proofs.consequences.legal_owes_nothing.Goals as goal
use Rattle.legal_rules.proofs.LegalConsequences.{legal_owes_nothing}

pub returns : goal.returns
returns c = legal_owes_nothing
