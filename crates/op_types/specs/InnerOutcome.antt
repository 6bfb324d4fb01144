-- How a transaction ended, as the inner one of a fee bump (InnerTransactionResult in Stellar-transaction.x; CAP-0015).
use Rattle.op_types.specs.declared.transaction_result.TransactionOutcome.{TransactionOutcome}
use Rattle.op_types.specs.declared.transaction_result.TransactionOutcome.TheVariants as outcome
use Rattle.op_types.specs.declared.transaction_result.InnerTransactionOutcome.{InnerTransactionOutcome}
use Rattle.op_types.specs.declared.transaction_result.InnerTransactionOutcome.TheVariants as inner

-- An inner transaction is no fee bump itself.
abbrev pub inner_outcome : TransactionOutcome → InnerTransactionOutcome
inner_outcome (outcome.Success results) = inner.Success results
inner_outcome (outcome.Failed results) = inner.Failed results
inner_outcome outcome.TooEarly = inner.TooEarly
inner_outcome outcome.TooLate = inner.TooLate
inner_outcome outcome.MissingOperation = inner.MissingOperation
inner_outcome outcome.BadSeq = inner.BadSeq
inner_outcome outcome.BadAuth = inner.BadAuth
inner_outcome outcome.InsufficientBalance = inner.InsufficientBalance
inner_outcome outcome.NoAccount = inner.NoAccount
inner_outcome outcome.InsufficientFee = inner.InsufficientFee
inner_outcome outcome.BadAuthExtra = inner.BadAuthExtra
inner_outcome outcome.InternalError = inner.InternalError
inner_outcome outcome.NotSupported = inner.NotSupported
inner_outcome (outcome.FeeBumpInnerFailed pair) = inner.FeeBumpInnerFailed
inner_outcome outcome.BadSponsorship = inner.BadSponsorship
inner_outcome outcome.BadMinSeqAgeOrGap = inner.BadMinSeqAgeOrGap
inner_outcome outcome.Malformed = inner.Malformed
inner_outcome (outcome.FeeBumpInnerSuccess pair) = inner.FeeBumpInnerSuccess
