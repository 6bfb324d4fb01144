use Rattle.tx_apply.proofs.Conserving.{operations_are_lawful}
use Rattle.tx_apply.proofs.laws.operations_are_lawful.Goals as goal

pub returns : goal.returns
returns c = operations_are_lawful c.transaction_laws.ensures c.legal_settles.ensures
