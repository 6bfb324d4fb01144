use Rattle.legal_rules.proofs.pools.share_line_removed.Goals as goal
use Rattle.legal_rules.proofs.SharesKept.{share_line_removed}

pub returns : goal.returns
returns c = share_line_removed
