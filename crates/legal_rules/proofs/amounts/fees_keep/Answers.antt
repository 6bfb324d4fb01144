use Rattle.legal_rules.proofs.amounts.fees_keep.Goals as goal
use Rattle.legal_rules.proofs.Paid.{fees_keep}

pub returns : goal.returns
returns c = fees_keep
