use Rattle.legal_rules.proofs.offers.liabilities_released.Goals as goal
use Rattle.legal_rules.proofs.Releasing.{releasing_legal}

pub returns : goal.returns
returns c = releasing_legal
