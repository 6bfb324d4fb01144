use Rattle.legal_rules.proofs.pools.removing_share_lines_keep.Goals as goal
use Rattle.legal_rules.proofs.ShareLinesKept.{removing_share_lines_keep}

pub returns : goal.returns
returns c = removing_share_lines_keep
