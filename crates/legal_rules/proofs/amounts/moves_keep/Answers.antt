use Rattle.legal_rules.proofs.amounts.moves_keep.Goals as goal
use Rattle.legal_rules.proofs.Paid.{moves_keep}

pub returns : goal.returns
returns c = moves_keep
