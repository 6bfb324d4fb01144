use Rattle.sponsor_laws.proofs.counts.sponsored_at_most.Goals as goal
use Rattle.sponsor_laws.proofs.Sponsored.{sponsored_at_most}

pub returns : goal.returns
returns c = sponsored_at_most
