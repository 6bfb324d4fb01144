use Rattle.legal_rules.proofs.full_states.rules_bind.Goals as goal
use Rattle.legal_rules.proofs.Breaking.{rules_bind}

pub returns : goal.returns
returns c = rules_bind
