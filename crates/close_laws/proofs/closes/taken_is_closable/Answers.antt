use Rattle.close_laws.proofs.Taken.{taken_is_closable}
use Rattle.close_laws.proofs.closes.taken_is_closable.Goals as goal

pub returns : goal.returns
returns c = taken_is_closable
