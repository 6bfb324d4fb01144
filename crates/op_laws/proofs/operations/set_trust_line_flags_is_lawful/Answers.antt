use Rattle.op_laws.proofs.operations.set_trust_line_flags_is_lawful.Goals as goal
use Rattle.op_laws.proofs.LineFlags.{set_trust_line_flags_is_lawful}

pub returns : goal.returns
returns c = set_trust_line_flags_is_lawful
