use Rattle.legal_rules.proofs.entries.subentry_added.Goals as goal
use Rattle.legal_rules.proofs.Kept.{subentry_added_so}

pub returns : goal.returns
returns c = subentry_added_so
