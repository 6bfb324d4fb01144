-- How a transaction ended, as the inner one of a fee bump (InnerTransactionResult in Stellar-transaction.x; CAP-0015).
use Rattle.std.specs.Prelude.{pos}
use Rattle.ledger_types.specs.declared.ids.Hash.{Hash}
use Rattle.op_types.specs.declared.transaction_result.TransactionOutcome.{TransactionOutcome}
use Rattle.op_types.specs.declared.transaction_result.TransactionOutcome.TheVariants as outcome
use Rattle.op_types.specs.declared.transaction_result.InnerTransactionResultPair.{InnerTransactionResultPair}
use Rattle.op_types.specs.InnerOutcome.{inner_outcome}

-- the fee bump pays, so the fee of the inner transaction is 0
abbrev pub inner_pair : Hash → TransactionOutcome → InnerTransactionResultPair
inner_pair hash end =
    record { transaction_hash = hash; result = record { fee_charged = pos 0; outcome = inner_outcome end } }

-- how a fee bump ended whose inner transaction was applied
abbrev pub bump_outcome : Hash → TransactionOutcome → TransactionOutcome
bump_outcome hash (outcome.Success results) = outcome.FeeBumpInnerSuccess (inner_pair hash (outcome.Success results))
bump_outcome hash other = outcome.FeeBumpInnerFailed (inner_pair hash other)
