use Rattle.replay.proofs.OneOutcome.{outcomes_are_one}
use Rattle.replay.proofs.laws.outcomes_are_one.Goals as goal

pub returns : goal.returns
returns c = outcomes_are_one
