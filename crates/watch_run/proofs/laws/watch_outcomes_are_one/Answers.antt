use Rattle.watch_run.proofs.WatchesAnswered.{watch_outcomes_are_one}
use Rattle.watch_run.proofs.laws.watch_outcomes_are_one.Goals as goal

pub returns : goal.returns
returns c = watch_outcomes_are_one
