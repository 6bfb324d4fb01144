use Rattle.sample_ledger.proofs.Prelude.{List, ℕ, set, ap, ◌∙◌, sha256, AccountId}
use Rattle.sample_ledger.proofs.Keys.{last_replaced}
use Rattle.sample_ledger.proofs.accounts.account_id.Goals as goal

abbrev with_key : List ℕ → AccountId
with_key key = record { 0 = key }

pub returns : goal.returns
returns c =
    let text = c.as_slice.ensures.value ∙ c.in_ok-text.ensures in
    ap (λ (digest : List ℕ). with_key (set digest 31 c.args.account)) (c.digest-key.ensures ∙ ap sha256 text)
    ∙ ap with_key (last_replaced _ c.args.account)
