use Rattle.legal_rules.proofs.pools.share_line_added.Goals as goal
use Rattle.legal_rules.proofs.SharesKept.{share_line_added}

pub returns : goal.returns
returns c = share_line_added
