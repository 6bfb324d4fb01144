use Rattle.existence_laws.proofs.Starting.{each_outcome}
use Rattle.existence_laws.proofs.outcomes.each_outcome.Goals as goal

pub returns : goal.returns
returns c = each_outcome c.each_run.ensures c.each_image.ensures
