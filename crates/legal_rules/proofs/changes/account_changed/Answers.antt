use Rattle.legal_rules.proofs.changes.account_changed.Goals as goal
use Rattle.legal_rules.proofs.Changed.{account_changed}

pub returns : goal.returns
returns c = account_changed
