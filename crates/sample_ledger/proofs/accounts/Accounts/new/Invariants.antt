use Rattle.sample_ledger.proofs.Prelude.{◌≡◌, map, range_with_len, account_id}
use Rattle.sample_ledger.proofs.accounts.Accounts.new.Given as goal

abbrev pub invariant-loop-account : goal.invariant-loop-account
invariant-loop-account l = l.ids.items ≡ map (account_id l.seed) (range_with_len 0 l.account)
