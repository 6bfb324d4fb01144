use Rattle.op_laws.proofs.steps.settled_legal.Goals as goal
use Rattle.op_laws.proofs.Settled.{settled_legal}

pub returns : goal.returns
returns c = settled_legal
