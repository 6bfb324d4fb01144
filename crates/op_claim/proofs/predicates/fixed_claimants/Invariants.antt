use Rattle.op_claim.proofs.Prelude.{◌≡◌, take, map, fixed_claimant}
use Rattle.op_claim.proofs.predicates.fixed_claimants.Given as goal

-- the claimants fixed so far
abbrev pub invariant-loop-claimant : goal.invariant-loop-claimant
invariant-loop-claimant l = l.fixed ≡ map (fixed_claimant l.close_time) (take l.claimant-index l.claimants)
