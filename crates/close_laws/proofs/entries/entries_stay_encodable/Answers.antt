use Rattle.close_laws.proofs.NextEntries.{entries_stay_encodable}
use Rattle.close_laws.proofs.entries.entries_stay_encodable.Goals as goal

pub returns : goal.returns
returns c =
    entries_stay_encodable c.transaction_laws.ensures c.legal_settles.ensures c.settled_legal.ensures
    c.sets_conserve.ensures
