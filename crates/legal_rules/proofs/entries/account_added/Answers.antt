use Rattle.legal_rules.proofs.entries.account_added.Goals as goal
use Rattle.legal_rules.proofs.Kept.{account_added_so}

pub returns : goal.returns
returns c = account_added_so
