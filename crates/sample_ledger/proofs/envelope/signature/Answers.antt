use Rattle.sample_ledger.proofs.Prelude.{◌≡◌, ℕ, List, take, drop, ap, ◌∙◌, arith, take_all, sha256, secret}
use Rattle.op_types.specs.declared.transaction.DecoratedSignature.{DecoratedSignature}
use Rattle.sample_ledger.proofs.Lengths.{hint_len}
use Rattle.sample_ledger.proofs.envelope.signature.Goals as goal

abbrev signed : List ℕ → List ℕ → DecoratedSignature
signed hint text = record { hint = hint; signature = text }

pub returns : goal.returns
returns c =
    let text = secret c.args.accounts.now c.args.account in
    let digest = c.digest-digest.ensures ∙ ap sha256 (c.as_slice.ensures.value ∙ c.in_ok-secret.ensures) in
    let hint : c.copy_from_slice.new.self ≡ drop 28 (sha256 text) = c.copy_from_slice.ensures.after
    ∙ ap (λ (d : List ℕ). take 4 (drop 28 d)) digest
    ∙ take_all 4 (drop 28 (sha256 text)) (omega (arith, hint_len text)) in
    let kept : c.from_vec.result ≡ text = c.from_vec.ensures ∙ c.in_ok-secret.ensures in
    λ i. signed (hint i) (kept i)
