use Rattle.op_laws.proofs.operations.allow_trust_is_lawful.Goals as goal
use Rattle.op_laws.proofs.LineFlags.{allow_trust_is_lawful}

pub returns : goal.returns
returns c = allow_trust_is_lawful
