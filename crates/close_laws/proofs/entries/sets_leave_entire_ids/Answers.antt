use Rattle.close_rules.specs.Close.{applied_in}
use Rattle.close_laws.proofs.EntireIds.{ids_entire}
use Rattle.close_laws.proofs.NextEntries.{applied_bytes}
use Rattle.close_laws.proofs.NextLegal.{applied_settled}
use Rattle.close_laws.proofs.entries.sets_leave_entire_ids.Goals as goal

pub returns : goal.returns
returns c = λ s closing can.
    ids_entire (applied_in s closing).entries
    (applied_settled c.sets_conserve.ensures s closing can).legal.keyed
    (applied_bytes c.transaction_laws.ensures c.legal_settles.ensures s closing can)
