use Rattle.op_laws.proofs.steps.preauths_settle.Goals as goal
use Rattle.op_laws.proofs.Signers.{preauths_settle}

pub returns : goal.returns
returns c = preauths_settle
