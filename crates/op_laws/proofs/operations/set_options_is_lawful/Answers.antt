use Rattle.op_laws.proofs.operations.set_options_is_lawful.Goals as goal
use Rattle.op_laws.proofs.SetOptions.{set_options_is_lawful}

pub returns : goal.returns
returns c = set_options_is_lawful
