use Rattle.op_laws.proofs.operations.bump_sequence_is_lawful.Goals as goal
use Rattle.op_laws.proofs.BumpSequence.{bump_sequence_is_lawful}

pub returns : goal.returns
returns c = bump_sequence_is_lawful
