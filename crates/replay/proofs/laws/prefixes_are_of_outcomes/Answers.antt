use Rattle.replay.proofs.OneOutcome.{run_prefix, prefixes_are_of_outcomes, outputs_are_prefixes}
use Rattle.replay.proofs.laws.prefixes_are_of_outcomes.Goals as goal

pub returns-clause-runs : goal.returns-clause-runs
returns-clause-runs c = run_prefix

pub returns-clause-prefixes : goal.returns-clause-prefixes
returns-clause-prefixes c = prefixes_are_of_outcomes

pub returns-clause-outputs : goal.returns-clause-outputs
returns-clause-outputs c = outputs_are_prefixes
