use Rattle.op_claim.proofs.Prelude.{length}
use Rattle.op_claim.proofs.create_claimable_balance.+has_twice.Given as goal

abbrev pub decreases-has_twice : goal.decreases-has_twice
decreases-has_twice l = length l.claimants.now
