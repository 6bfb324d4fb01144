use Rattle.bucket_levels.proofs.Ordering as order
use Rattle.bucket_levels.proofs.laws.steps_are_in_order.Goals as goal

pub returns : goal.returns
returns c = order.steps_are_in_order
