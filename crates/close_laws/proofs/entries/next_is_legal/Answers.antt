use Rattle.close_laws.proofs.NextLegal.{next_is_legal}
use Rattle.close_laws.proofs.entries.next_is_legal.Goals as goal

pub returns : goal.returns
returns c = next_is_legal c.settled_legal.ensures c.sets_conserve.ensures
