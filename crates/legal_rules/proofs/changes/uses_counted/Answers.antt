use Rattle.legal_rules.proofs.changes.uses_counted.Goals as goal
use Rattle.legal_rules.proofs.Changed.{uses_counted}

pub returns : goal.returns
returns c = uses_counted
