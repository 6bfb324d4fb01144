use Rattle.sample_ledger.proofs.Prelude.{◌≡◌, ℕ, List, get_or, map, ap, ◌∙◌, range_with_len, AccountId, account_id}
use Rattle.sample_ledger.proofs.Prelude.{account_count}
use Rattle.sample_ledger.proofs.Listed.{at_number}
use Rattle.sample_ledger.proofs.accounts.Accounts.id.Goals as goal

pub returns : goal.returns
returns c =
    let seed = c.self.inside.seed in
    let ids : c.self.inside.ids.items ≡ map (account_id seed) (range_with_len 0 account_count) = c.self.invariant in
    c.index.ensures ∙ ap (λ (all : List AccountId). get_or all c.args.account c.index.result.now) ids
    ∙ at_number (account_id seed) account_count c.args.account c.index.result.now c.requires
    ∙ ap (λ (of : ℕ). account_id of c.args.account) c.self.view_is
