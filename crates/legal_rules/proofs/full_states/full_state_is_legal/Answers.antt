use Rattle.legal_rules.proofs.full_states.full_state_is_legal.Goals as goal
use Rattle.legal_rules.proofs.Full.{full_state_is_legal}

pub returns : goal.returns
returns c = full_state_is_legal
