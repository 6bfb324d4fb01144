use Rattle.legal_rules.proofs.pools.adding_share_lines_keep.Goals as goal
use Rattle.legal_rules.proofs.ShareLinesKept.{adding_share_lines_keep}

pub returns : goal.returns
returns c = adding_share_lines_keep
