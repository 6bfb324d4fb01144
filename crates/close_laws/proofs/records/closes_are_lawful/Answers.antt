use Rattle.close_laws.proofs.KeptLaws.{closes_are_lawful}
use Rattle.close_laws.proofs.records.closes_are_lawful.Goals as goal

pub returns : goal.returns
returns c = closes_are_lawful c.records_keep_laws.ensures c.taken_is_closable.ensures c.next_is_closing.ensures
