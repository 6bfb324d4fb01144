use Rattle.sponsor_laws.proofs.entries.removing_keeps_sums.Goals as goal
use Rattle.sponsor_laws.proofs.Removing.{removing_keeps}

pub returns : goal.returns
returns c = removing_keeps
