use Rattle.account_laws.proofs.Operations.{operations_keep_accounts}
use Rattle.account_laws.proofs.operations_keep_accounts.Goals as goal

pub returns : goal.returns
returns c = operations_keep_accounts
