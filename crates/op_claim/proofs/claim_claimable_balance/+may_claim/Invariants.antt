use Rattle.op_claim.proofs.Prelude.{length}
use Rattle.op_claim.proofs.claim_claimable_balance.+may_claim.Given as goal

abbrev pub decreases-may_claim : goal.decreases-may_claim
decreases-may_claim l = length l.claimants.now
