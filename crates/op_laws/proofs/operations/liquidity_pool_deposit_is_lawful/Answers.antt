use Rattle.op_laws.proofs.operations.liquidity_pool_deposit_is_lawful.Goals as goal
use Rattle.op_laws.proofs.Deposits.{liquidity_pool_deposit_is_lawful}

pub returns : goal.returns
returns c = liquidity_pool_deposit_is_lawful
