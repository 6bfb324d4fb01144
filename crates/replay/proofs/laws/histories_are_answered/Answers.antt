use Rattle.stored_outcome.specs.run_outcome.HistoryRun.{history_file}
use Rattle.reports.proofs.OneKind.{history_is_determined}
use Rattle.replay.proofs.AllClosed.{writings_done}
use Rattle.replay.proofs.FilesAnswered.{writings_answered, writings_complete}
use Rattle.replay.proofs.laws.histories_are_answered.Goals as goal

pub returns-clause-complete : goal.returns-clause-complete
returns-clause-complete c = writings_complete history_file

pub returns-clause-answered : goal.returns-clause-answered
returns-clause-answered c = writings_answered history_file history_is_determined

pub returns-clause-done : goal.returns-clause-done
returns-clause-done c = writings_done history_file history_is_determined
