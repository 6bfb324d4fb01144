use Rattle.watch_run.proofs.WatchesAnswered.{by_watch, usage_reported}
use Rattle.watch_run.proofs.laws.words_are_watches.Goals as goal

pub returns-clause-watches : goal.returns-clause-watches
returns-clause-watches c = by_watch

pub returns-clause-usage : goal.returns-clause-usage
returns-clause-usage c = usage_reported
