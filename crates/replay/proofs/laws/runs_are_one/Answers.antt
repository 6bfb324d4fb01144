use Rattle.replay.proofs.OneOutcome.{runs_are_one}
use Rattle.replay.proofs.laws.runs_are_one.Goals as goal

pub returns : goal.returns
returns c = runs_are_one
