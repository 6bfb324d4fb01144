use Rattle.legal_rules.proofs.entries.entry_moved.Goals as goal
use Rattle.legal_rules.proofs.Kept.{entry_moved_so}

pub returns : goal.returns
returns c = entry_moved_so
