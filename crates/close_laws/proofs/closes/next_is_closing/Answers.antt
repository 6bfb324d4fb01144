use Rattle.close_laws.proofs.NextClosing.{next_is_closing}
use Rattle.close_laws.proofs.closes.next_is_closing.Goals as goal

pub returns : goal.returns
returns c =
    next_is_closing c.transaction_laws.ensures c.legal_settles.ensures c.settled_legal.ensures c.sets_conserve.ensures
    c.steps_represent.ensures
