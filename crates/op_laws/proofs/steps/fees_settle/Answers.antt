use Rattle.op_laws.proofs.steps.fees_settle.Goals as goal
use Rattle.op_laws.proofs.Payments.{fees_settle}

pub returns : goal.returns
returns c = fees_settle
