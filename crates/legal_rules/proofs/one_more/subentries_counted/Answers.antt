use Rattle.legal_rules.proofs.one_more.subentries_counted.Goals as goal
use Rattle.legal_rules.proofs.Counted.{subentries_counted}

pub returns : goal.returns
returns c = subentries_counted
