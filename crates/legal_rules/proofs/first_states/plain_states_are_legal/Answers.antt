use Rattle.legal_rules.proofs.first_states.plain_states_are_legal.Goals as goal
use Rattle.legal_rules.proofs.First.{plain_states_are_legal}

pub returns : goal.returns
returns c = plain_states_are_legal
