use Rattle.replay.proofs.Sampling.{complete_or_full, samples_are_one, samples_are_complete}
use Rattle.replay.proofs.laws.samples_are_answered.Goals as goal

pub returns-clause-full : goal.returns-clause-full
returns-clause-full c = complete_or_full c.samples_go_on.ensures

pub returns-clause-one : goal.returns-clause-one
returns-clause-one c = samples_are_one

pub returns-clause-complete : goal.returns-clause-complete
returns-clause-complete c = samples_are_complete
