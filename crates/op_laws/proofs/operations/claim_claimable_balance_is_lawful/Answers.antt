use Rattle.op_laws.proofs.operations.claim_claimable_balance_is_lawful.Goals as goal
use Rattle.op_laws.proofs.Claims.{claim_claimable_balance_is_lawful}

pub returns : goal.returns
returns c = claim_claimable_balance_is_lawful
