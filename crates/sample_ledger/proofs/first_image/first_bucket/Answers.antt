use Rattle.sample_ledger.proofs.Prelude.{◌≡◌, ℕ, IfOk, subst, first_bucket}
use Rattle.sample_ledger.proofs.first_image.first_bucket.Goals as goal

pub of_file-requires : goal.of_file-requires
of_file-requires c =
    (first_bucket c.in_ok-accounts.accounts, c.in_ok-file.ensures.has, c.in_ok-file.ensures.file)

pub returns : goal.returns
returns c =
    subst (λ (seed : ℕ). IfOk c.of_file.result (λ bucket. bucket.value ≡ first_bucket seed)) c.in_ok-accounts.ensures
    (c.of_file.ensures (first_bucket c.in_ok-accounts.accounts) c.in_ok-file.ensures.has c.in_ok-file.ensures.file)
