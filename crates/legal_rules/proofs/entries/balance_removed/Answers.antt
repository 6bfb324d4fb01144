use Rattle.legal_rules.proofs.entries.balance_removed.Goals as goal
use Rattle.legal_rules.proofs.Kept.{balance_removed_so}

pub returns : goal.returns
returns c = balance_removed_so
