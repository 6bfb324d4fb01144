use Rattle.legal_rules.proofs.consequences.sponsors_ready.Goals as goal
use Rattle.legal_rules.proofs.LegalConsequences.{sponsors_ready}

pub returns : goal.returns
returns c = sponsors_ready
