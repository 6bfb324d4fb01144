use Rattle.sponsor_laws.proofs.counts.zero_sponsors_nothing.Goals as goal
use Rattle.sponsor_laws.proofs.Sponsoring.{zero_sponsors}

pub returns : goal.returns
returns c = zero_sponsors
