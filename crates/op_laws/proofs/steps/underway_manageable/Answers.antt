use Rattle.op_laws.proofs.steps.underway_manageable.Goals as goal
use Rattle.op_laws.proofs.Settled.{underway_manageable}

pub returns : goal.returns
returns c = underway_manageable
