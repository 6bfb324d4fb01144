use Rattle.legal_rules.proofs.changes.pool_changed.Goals as goal
use Rattle.legal_rules.proofs.Changed.{pool_changed}

pub returns : goal.returns
returns c = pool_changed
