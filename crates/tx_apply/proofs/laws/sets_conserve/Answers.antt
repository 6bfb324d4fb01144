use Rattle.tx_apply.proofs.Conserving.{sets_conserve}
use Rattle.tx_apply.proofs.laws.sets_conserve.Goals as goal

pub returns : goal.returns
returns c = sets_conserve c.transaction_laws.ensures c.legal_settles.ensures
