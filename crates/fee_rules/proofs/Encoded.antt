-- What a set that has an encoding says of its transactions.
use Rattle.fee_rules.proofs.Prelude.{◌≤◌, ◌<◌, ◌^◌, length, arith, All, All-from_recursion, TransactionSet}
use Rattle.fee_rules.proofs.Prelude.{transaction_set, transaction_envelope}
use Rattle.xdr_core.specs.Combinators.{list}

-- each has an encoding
pub envelopes_within : (set : TransactionSet) → transaction_set.within set
    → All (λ envelope. transaction_envelope.within envelope) set.txs
unfolding transaction_set list
envelopes_within set within =
    All-from_recursion (λ envelope. transaction_envelope.within envelope) set.txs within.1.1

-- there are fewer than 2^32
pub envelopes_few : (set : TransactionSet) → transaction_set.within set → length set.txs < 2 ^ 32
unfolding transaction_set list
envelopes_few set within = let most : length set.txs ≤ 4294967295 = within.1.0 in omega (arith, most)
