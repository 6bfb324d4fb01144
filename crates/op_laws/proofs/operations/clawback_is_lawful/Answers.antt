use Rattle.op_laws.proofs.operations.clawback_is_lawful.Goals as goal
use Rattle.op_laws.proofs.Clawbacks.{clawback_is_lawful}

pub returns : goal.returns
returns c = clawback_is_lawful
