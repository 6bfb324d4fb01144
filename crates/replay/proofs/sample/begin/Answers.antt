use Rattle.replay.proofs.SampleSteps.{nothing_closed}
use Rattle.replay.proofs.sample.begin.Goals as goal

pub returns : goal.returns
returns c = nothing_closed c.args.seed c.in_ok-first_ledger.field-0.state c.in_ok-first_ledger.ensures
