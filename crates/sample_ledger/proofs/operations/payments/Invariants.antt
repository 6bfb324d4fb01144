use Rattle.sample_ledger.proofs.Prelude.{◌≡◌, ◌-◌, map, range_with_len, own, payment, usd}
use Rattle.sample_ledger.proofs.operations.payments.Given as goal

abbrev pub invariant-loop-to : goal.invariant-loop-to
invariant-loop-to l =
    l.operations ≡ map (λ to. own (payment l.accounts to (usd l.accounts) 1000000000)) (range_with_len 1 (l.to - 1))
