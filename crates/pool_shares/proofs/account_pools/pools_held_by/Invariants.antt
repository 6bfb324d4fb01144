use Rattle.pool_shares.proofs.Prelude.{◌≡◌, ◌++◌, length, left, held_in}
use Rattle.pool_shares.proofs.account_pools.pools_held_by.Given as goal

-- what was found, and what follows
abbrev pub invariant-loop-pools : goal.invariant-loop-pools
invariant-loop-pools g l =
    l.pools.items ++ held_in l.id (left l.entries.current l.id l.last)
    ≡ held_in l.id (left l.entries.current l.id l.initial.last)

abbrev pub decreases-loop-pools : goal.decreases-loop-pools
decreases-loop-pools g l = length (left l.entries.current l.id l.last)
