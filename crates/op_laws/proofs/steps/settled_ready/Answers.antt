use Rattle.op_laws.proofs.steps.settled_ready.Goals as goal
use Rattle.op_laws.proofs.Settled.{settled_ready}

pub returns : goal.returns
returns c = settled_ready
