use Rattle.op_laws.proofs.operations.all_are_lawful.Goals as goal
use Rattle.op_laws.proofs.AllOperations.{all_are_lawful}

pub returns : goal.returns
returns c = all_are_lawful
