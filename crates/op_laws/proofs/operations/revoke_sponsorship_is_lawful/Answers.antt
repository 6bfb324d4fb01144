use Rattle.op_laws.proofs.operations.revoke_sponsorship_is_lawful.Goals as goal
use Rattle.op_laws.proofs.Revoking.{revoke_sponsorship_is_lawful}

pub returns : goal.returns
returns c = revoke_sponsorship_is_lawful
