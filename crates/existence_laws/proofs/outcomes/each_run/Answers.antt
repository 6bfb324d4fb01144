use Rattle.existence_laws.proofs.Running.{each_run}
use Rattle.existence_laws.proofs.outcomes.each_run.Goals as goal

pub returns : goal.returns
returns c = each_run c.each_close.ensures c.taken_is_closable.ensures c.next_is_closing.ensures
