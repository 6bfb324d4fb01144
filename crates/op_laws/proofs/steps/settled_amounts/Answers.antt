use Rattle.op_laws.proofs.steps.settled_amounts.Goals as goal
use Rattle.op_laws.proofs.Settled.{settled_amounts}

pub returns : goal.returns
returns c = settled_amounts
