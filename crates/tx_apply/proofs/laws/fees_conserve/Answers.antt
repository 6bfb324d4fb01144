use Rattle.tx_apply.proofs.TakenFees.{fees_conserve}
use Rattle.tx_apply.proofs.laws.fees_conserve.Goals as goal

pub returns : goal.returns
returns c = fees_conserve c.transaction_laws.ensures
