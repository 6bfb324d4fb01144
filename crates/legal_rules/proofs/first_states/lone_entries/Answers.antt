use Rattle.legal_rules.proofs.first_states.lone_entries.Goals as goal
use Rattle.legal_rules.proofs.First.{lone_entries}

pub returns : goal.returns
returns c = lone_entries
