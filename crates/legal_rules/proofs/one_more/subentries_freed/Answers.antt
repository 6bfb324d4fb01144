use Rattle.legal_rules.proofs.one_more.subentries_freed.Goals as goal
use Rattle.legal_rules.proofs.Freed.{subentries_freed}

pub returns : goal.returns
returns c = subentries_freed
