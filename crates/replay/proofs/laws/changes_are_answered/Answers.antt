use Rattle.stored_outcome.specs.run_outcome.ChangesRun.{changes_file}
use Rattle.reports.proofs.OneKind.{changes_are_determined}
use Rattle.replay.proofs.AllClosed.{writings_done}
use Rattle.replay.proofs.FilesAnswered.{writings_answered, writings_complete}
use Rattle.replay.proofs.laws.changes_are_answered.Goals as goal

pub returns-clause-complete : goal.returns-clause-complete
returns-clause-complete c = writings_complete changes_file

pub returns-clause-answered : goal.returns-clause-answered
returns-clause-answered c = writings_answered changes_file changes_are_determined

pub returns-clause-done : goal.returns-clause-done
returns-clause-done c = writings_done changes_file changes_are_determined
