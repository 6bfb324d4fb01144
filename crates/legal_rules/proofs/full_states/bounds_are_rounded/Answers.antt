use Rattle.legal_rules.proofs.full_states.bounds_are_rounded.Goals as goal
use Rattle.legal_rules.proofs.Rounded.{bounds_are_rounded}

pub returns : goal.returns
returns c = bounds_are_rounded
