use Rattle.op_laws.proofs.operations.begin_sponsoring_is_lawful.Goals as goal
use Rattle.op_laws.proofs.Sponsorships.{begin_sponsoring_is_lawful}

pub returns : goal.returns
returns c = begin_sponsoring_is_lawful
