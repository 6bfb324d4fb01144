use Rattle.op_laws.proofs.operations.change_trust_is_lawful.Goals as goal
use Rattle.op_laws.proofs.ChangeTrust.{change_trust_is_lawful}

pub returns : goal.returns
returns c = change_trust_is_lawful
