use Rattle.op_laws.proofs.operations.clawback_claimable_balance_is_lawful.Goals as goal
use Rattle.op_laws.proofs.Claims.{clawback_claimable_balance_is_lawful}

pub returns : goal.returns
returns c = clawback_claimable_balance_is_lawful
