use Rattle.legal_rules.proofs.pools.removed_pools_keep.Goals as goal
use Rattle.legal_rules.proofs.PoolsKept.{removed_pools_keep}

pub returns : goal.returns
returns c = removed_pools_keep
