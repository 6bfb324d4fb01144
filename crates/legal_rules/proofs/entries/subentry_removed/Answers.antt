use Rattle.legal_rules.proofs.entries.subentry_removed.Goals as goal
use Rattle.legal_rules.proofs.Kept.{subentry_removed_so}

pub returns : goal.returns
returns c = subentry_removed_so
