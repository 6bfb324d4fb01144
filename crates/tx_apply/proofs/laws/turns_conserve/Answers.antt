use Rattle.tx_apply.proofs.Conserving.{turns_conserve}
use Rattle.tx_apply.proofs.laws.turns_conserve.Goals as goal

pub returns : goal.returns
returns c = turns_conserve c.transaction_laws.ensures c.legal_settles.ensures
