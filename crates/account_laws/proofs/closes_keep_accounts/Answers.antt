use Rattle.account_laws.proofs.Sets.{closes_keep_accounts}
use Rattle.account_laws.proofs.closes_keep_accounts.Goals as goal

pub returns : goal.returns
returns c = closes_keep_accounts
