use Rattle.legal_rules.proofs.entries.balance_added.Goals as goal
use Rattle.legal_rules.proofs.Kept.{balance_added_so}

pub returns : goal.returns
returns c = balance_added_so
