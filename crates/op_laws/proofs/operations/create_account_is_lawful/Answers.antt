use Rattle.op_laws.proofs.operations.create_account_is_lawful.Goals as goal
use Rattle.op_laws.proofs.NewAccounts.{create_account_is_lawful}

pub returns : goal.returns
returns c = create_account_is_lawful
