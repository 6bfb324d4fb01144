use Rattle.legal_rules.proofs.first_states.genesis_is_legal.Goals as goal
use Rattle.legal_rules.proofs.First.{genesis_is_legal}

pub returns : goal.returns
returns c = genesis_is_legal
