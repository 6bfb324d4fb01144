use Rattle.stored_outcome.specs.run_outcome.HistoryRun.{history_file}
use Rattle.stored_outcome.specs.run_outcome.ChangesRun.{changes_file}
use Rattle.reports.proofs.OneKind.{changes_are_determined, history_is_determined}
use Rattle.replay.proofs.OneFile.{one_outcome}
use Rattle.replay.proofs.laws.file_outcomes_are_one.Goals as goal

pub returns-clause-histories : goal.returns-clause-histories
returns-clause-histories c = one_outcome history_file history_is_determined

pub returns-clause-changes : goal.returns-clause-changes
returns-clause-changes c = one_outcome changes_file changes_are_determined
