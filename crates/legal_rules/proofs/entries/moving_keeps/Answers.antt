use Rattle.legal_rules.proofs.entries.moving_keeps.Goals as goal
use Rattle.legal_rules.proofs.Kept.{moving_keeps}

pub returns : goal.returns
returns c = moving_keeps
