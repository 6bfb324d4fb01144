use Rattle.sponsor_laws.proofs.entries.moving_keeps_sums.Goals as goal
use Rattle.sponsor_laws.proofs.Moving.{moving_keeps}

pub returns : goal.returns
returns c = moving_keeps
