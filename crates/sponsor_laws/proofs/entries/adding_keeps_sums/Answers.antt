use Rattle.sponsor_laws.proofs.entries.adding_keeps_sums.Goals as goal
use Rattle.sponsor_laws.proofs.Adding.{adding_keeps}

pub returns : goal.returns
returns c = adding_keeps
