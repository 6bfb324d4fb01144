use Rattle.replay.proofs.Acknowledging.{acknowledged_are_counted}
use Rattle.replay.proofs.laws.acknowledged_are_counted.Goals as goal

pub returns : goal.returns
returns c = acknowledged_are_counted
