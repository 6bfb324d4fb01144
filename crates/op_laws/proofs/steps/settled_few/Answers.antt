use Rattle.op_laws.proofs.steps.settled_few.Goals as goal
use Rattle.op_laws.proofs.Settled.{settled_few}

pub returns : goal.returns
returns c = settled_few
