use Rattle.legal_rules.proofs.consequences.accounts_in_range.Goals as goal
use Rattle.legal_rules.proofs.LegalConsequences.{accounts_in_range}

pub returns : goal.returns
returns c = accounts_in_range
