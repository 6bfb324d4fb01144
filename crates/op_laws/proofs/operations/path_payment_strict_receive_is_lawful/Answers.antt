use Rattle.op_laws.proofs.PathOperations.{path_receive_is_lawful}
use Rattle.op_laws.proofs.operations.path_payment_strict_receive_is_lawful.Goals as goal

pub returns : goal.returns
returns c = path_receive_is_lawful
