use Rattle.op_laws.proofs.operations.account_merge_is_lawful.Goals as goal
use Rattle.op_laws.proofs.Merging.{account_merge_is_lawful}

pub returns : goal.returns
returns c = account_merge_is_lawful
