use Rattle.legal_rules.proofs.entries.merges_keep.Goals as goal
use Rattle.legal_rules.proofs.Merging.{merges_keep}

pub returns : goal.returns
returns c = merges_keep
