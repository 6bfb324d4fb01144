use Rattle.legal_rules.proofs.first_states.lone_accounts.Goals as goal
use Rattle.legal_rules.proofs.First.{lone_accounts}

pub returns : goal.returns
returns c = lone_accounts
