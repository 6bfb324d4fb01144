use Rattle.op_laws.proofs.steps.settled_in_range.Goals as goal
use Rattle.op_laws.proofs.Settled.{settled_in_range}

pub returns : goal.returns
returns c = settled_in_range
