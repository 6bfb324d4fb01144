use Rattle.op_laws.proofs.steps.settled_held.Goals as goal
use Rattle.op_laws.proofs.Settled.{settled_held}

pub returns : goal.returns
returns c = settled_held
