use Rattle.legal_rules.proofs.one_more.one_more_is_right.Goals as goal
use Rattle.legal_rules.proofs.MayOwe.{one_more_is_right}

pub returns : goal.returns
returns c = one_more_is_right
