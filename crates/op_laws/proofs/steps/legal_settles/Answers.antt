use Rattle.op_laws.proofs.steps.legal_settles.Goals as goal
use Rattle.op_laws.proofs.Settled.{legal_settles}

pub returns : goal.returns
returns c = legal_settles
