use Rattle.archive_files.proofs.Verdicts.{chains_have_no_fault, verdicts_are_one}
use Rattle.archive_files.proofs.laws.a_history_has_one_verdict.Goals as goal

pub returns-clause-chains : goal.returns-clause-chains
returns-clause-chains c = chains_have_no_fault

pub returns-clause-verdicts : goal.returns-clause-verdicts
returns-clause-verdicts c = verdicts_are_one
