use Rattle.op_laws.proofs.operations.create_claimable_balance_is_lawful.Goals as goal
use Rattle.op_laws.proofs.Claims.{create_claimable_balance_is_lawful}

pub returns : goal.returns
returns c = create_claimable_balance_is_lawful
