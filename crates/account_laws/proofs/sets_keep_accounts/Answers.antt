use Rattle.account_laws.proofs.Sets.{sets_keep_accounts}
use Rattle.account_laws.proofs.sets_keep_accounts.Goals as goal

pub returns : goal.returns
returns c = sets_keep_accounts
