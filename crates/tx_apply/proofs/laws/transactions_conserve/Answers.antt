use Rattle.tx_apply.proofs.Conserving.{transactions_conserve}
use Rattle.tx_apply.proofs.laws.transactions_conserve.Goals as goal

pub returns : goal.returns
returns c = transactions_conserve c.transaction_laws.ensures
