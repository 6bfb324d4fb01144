use Rattle.op_laws.proofs.operations.payment_is_lawful.Goals as goal
use Rattle.op_laws.proofs.Payment.{payment_is_lawful}

pub returns : goal.returns
returns c = payment_is_lawful
