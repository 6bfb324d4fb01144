use Rattle.sponsor_rules.proofs.Prelude.{rules, account_at}
use Rattle.sponsor_rules.proofs.signer_index.find_signer.Goals as goal

pub returns-in-Some : goal.returns-in-Some
unfolding account_at
returns-in-Some g c = search (rules)

pub returns : goal.returns
unfolding account_at
returns g c = search (rules)
