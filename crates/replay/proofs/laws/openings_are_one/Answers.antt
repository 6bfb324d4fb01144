use Rattle.replay.proofs.StoredCompleting.{openings_are_one}
use Rattle.replay.proofs.laws.openings_are_one.Goals as goal

pub returns : goal.returns
returns c = openings_are_one
