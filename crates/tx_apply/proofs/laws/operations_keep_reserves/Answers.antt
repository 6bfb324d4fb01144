use Rattle.tx_apply.proofs.KeptReserves.{operations_keep_reserves}
use Rattle.tx_apply.proofs.laws.operations_keep_reserves.Goals as goal

pub returns : goal.returns
returns c = operations_keep_reserves c.transaction_laws.ensures c.legal_settles.ensures
