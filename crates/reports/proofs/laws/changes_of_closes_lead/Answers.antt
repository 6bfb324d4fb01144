use Rattle.reports.proofs.Changing.{changes_lead}
use Rattle.reports.proofs.laws.changes_of_closes_lead.Goals as goal

pub returns : goal.returns
returns c = changes_lead c.taken_is_closable.ensures c.next_is_closing.ensures c.changes_of_a_close_lead_on.ensures
    c.reversed_changes_lead_back.ensures
