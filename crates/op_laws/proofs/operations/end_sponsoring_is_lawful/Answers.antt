use Rattle.op_laws.proofs.operations.end_sponsoring_is_lawful.Goals as goal
use Rattle.op_laws.proofs.Sponsorships.{end_sponsoring_is_lawful}

pub returns : goal.returns
returns c = end_sponsoring_is_lawful
