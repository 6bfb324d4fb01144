use Rattle.watch_run.proofs.WatchesAnswered.{watches_answered, watches_complete, watches_done}
use Rattle.watch_run.proofs.laws.watches_are_answered.Goals as goal

pub returns-clause-complete : goal.returns-clause-complete
returns-clause-complete c = watches_complete

pub returns-clause-answered : goal.returns-clause-answered
returns-clause-answered c = watches_answered

pub returns-clause-done : goal.returns-clause-done
returns-clause-done c = watches_done
