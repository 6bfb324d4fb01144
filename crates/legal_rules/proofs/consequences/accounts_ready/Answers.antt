use Rattle.legal_rules.proofs.consequences.accounts_ready.Goals as goal
use Rattle.legal_rules.proofs.LegalConsequences.{accounts_ready}

pub returns : goal.returns
returns c = accounts_ready
