use Rattle.op_laws.proofs.steps.settled_accounts.Goals as goal
use Rattle.op_laws.proofs.Settled.{settled_accounts}

pub returns : goal.returns
returns c = settled_accounts
