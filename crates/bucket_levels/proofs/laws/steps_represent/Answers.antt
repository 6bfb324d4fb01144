use Rattle.bucket_levels.proofs.Existing as existing
use Rattle.bucket_levels.proofs.laws.steps_represent.Goals as goal

pub returns : goal.returns
returns c = existing.steps_represent
