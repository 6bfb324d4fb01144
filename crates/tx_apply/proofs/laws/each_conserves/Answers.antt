use Rattle.tx_apply.proofs.EachConserved.{each_conserves}
use Rattle.tx_apply.proofs.laws.each_conserves.Goals as goal

pub returns : goal.returns
returns c = each_conserves c.transaction_laws.ensures c.legal_settles.ensures
