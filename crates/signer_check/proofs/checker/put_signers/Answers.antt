use Rattle.signer_check.proofs.Prelude.{rules, ◌≡◌, ◌≤◌, ◌++◌, List, drop, take, length, ◌+◌, ap, ◌∙◌, slice_index}
use Rattle.signer_check.proofs.Prelude.{Signer}
use Rattle.signer_check.specs.Weight as spec
use Rattle.signer_check.proofs.Own.{own_in_table}
use Rattle.signer_check.proofs.checker.put_signers.Goals as goal

pub returns-else-account-eq0-clause-signers : goal.returns-else-account-eq0-clause-signers
returns-else-account-eq0-clause-signers c =
    let listed = c.as_slice-listed.result.now in
    let same : listed ≡ c.args.account.now.signers = search rules in
    let few : length listed ≤ 20 = search rules in
    let own = own_in_table listed c.args.signers.now (spec.own_signer c.args.account.now)
    (slice_index c.args.account.now.thresholds 0) c.requires.own few c.if-account-eq0.false in
    ap (λ (l : List Signer). take (length listed + 1) (l ++ drop (length listed) c.args.signers.now))
    c.copy_from_slice.ensures.after
    ∙ own ∙ ap (λ (l : List Signer). l ++ spec.own_signers c.args.account.now) same
