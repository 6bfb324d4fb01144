use Rattle.legal_rules.proofs.consequences.legal_is_owing_nothing.Goals as goal
use Rattle.legal_rules.proofs.LegalConsequences.{legal_is_owing_nothing}

pub returns : goal.returns
returns c = legal_is_owing_nothing
