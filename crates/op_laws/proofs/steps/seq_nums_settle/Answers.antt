use Rattle.op_laws.proofs.steps.seq_nums_settle.Goals as goal
use Rattle.op_laws.proofs.Payments.{seq_nums_settle}

pub returns : goal.returns
returns c = seq_nums_settle
