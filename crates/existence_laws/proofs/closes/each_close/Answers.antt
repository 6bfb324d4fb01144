use Rattle.existence_laws.proofs.Closing.{each_close}
use Rattle.existence_laws.proofs.closes.each_close.Goals as goal

pub returns : goal.returns
returns c = each_close c.taken_is_closable.ensures c.next_is_legal.ensures
