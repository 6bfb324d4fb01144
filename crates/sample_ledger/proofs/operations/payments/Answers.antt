use Rattle.sample_ledger.proofs.Prelude.{◌≡◌, ℕ, ◌-◌, [], ◌∷◌, ◌++◌, map, ap, sym, ◌∙◌, arith, range_with_len, Asset}
use Rattle.sample_ledger.proofs.Prelude.{Operation, own, payment, usd}
use Rattle.sample_ledger.proofs.Listed.{next_from_one}
use Rattle.sample_ledger.proofs.operations.payments.Goals as goal

abbrev paid : ℕ → ℕ → Operation
paid seed to = own (payment seed to (usd seed) 1000000000)

pub loop-to-preserved : goal.loop-to-preserved
loop-to-preserved c =
    let seed = c.args.accounts.now in
    let to = c.loop-to.to in
    let one : c.own.result ≡ paid seed to = c.own.ensures
    ∙ ap own (c.payment.ensures ∙ ap (λ (of : Asset). payment seed to of 1000000000) c.usd.ensures) in
    c.in_ok-push.ensures.ok ∙ (λ i. c.loop-to.invariant i ++ one i ∷ [])
    ∙ sym (next_from_one (paid seed) to c.loop-to.auto.to)

pub returns : goal.returns
returns c =
    let last : c.loop-to.to ≡ 9 = omega arith in
    c.loop-to.invariant ∙ ap (λ (n : ℕ). map (paid c.args.accounts.now) (range_with_len 1 (n - 1))) last
