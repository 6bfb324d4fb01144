use Rattle.close_laws.proofs.KeptLaws.{records_keep_laws}
use Rattle.close_laws.proofs.records.records_keep_laws.Goals as goal

pub returns : goal.returns
returns c =
    records_keep_laws c.transaction_laws.ensures c.legal_settles.ensures c.settled_legal.ensures c.sets_conserve.ensures
    c.each_conserves.ensures c.operations_keep_reserves.ensures
