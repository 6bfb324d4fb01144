use Rattle.legal_rules.proofs.consequences.min_balances_low.Goals as goal
use Rattle.legal_rules.proofs.LegalConsequences.{min_balances_low}

pub returns : goal.returns
returns c = min_balances_low
