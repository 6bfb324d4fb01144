use Rattle.legal_rules.proofs.consequences.idle_sponsors_nothing.Goals as goal
use Rattle.legal_rules.proofs.LegalConsequences.{idle_sponsors_nothing}

pub returns : goal.returns
returns c = idle_sponsors_nothing
