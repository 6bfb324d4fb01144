use Rattle.legal_rules.proofs.pools.new_pools_keep.Goals as goal
use Rattle.legal_rules.proofs.PoolsKept.{new_pools_keep}

pub returns : goal.returns
returns c = new_pools_keep
