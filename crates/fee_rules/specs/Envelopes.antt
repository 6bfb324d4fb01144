-- What a set's order and fees look at in an envelope (TransactionFrame and FeeBumpTransactionFrame in stellar-core).
use Rattle.std.specs.Prelude.{ℕ, ◌+◌, ℤ, pos, negsuc, length}
use Rattle.ledger_types.specs.declared.ids.AccountId.{AccountId}
use Rattle.ledger_types.specs.Ids.{account_of}
use Rattle.op_types.specs.declared.transaction.TransactionEnvelope.{TransactionEnvelope}
use Rattle.op_types.specs.declared.transaction.TransactionEnvelope.TheVariants as envelope

-- the account whose sequence number a transaction uses up; of a fee bump, that of the inner transaction
abbrev pub source_of : TransactionEnvelope → AccountId
source_of (envelope.V0 signed) = record { 0 = signed.tx.source_account_ed25519 }
source_of (envelope.V1 signed) = account_of signed.tx.source_account
source_of (envelope.FeeBump signed) = account_of signed.tx.inner_tx.tx.source_account

abbrev pub seq_num_of : TransactionEnvelope → ℤ
seq_num_of (envelope.V0 signed) = signed.tx.seq_num
seq_num_of (envelope.V1 signed) = signed.tx.seq_num
seq_num_of (envelope.FeeBump signed) = signed.tx.inner_tx.tx.seq_num

-- the account that pays the fee
abbrev pub fee_source_of : TransactionEnvelope → AccountId
fee_source_of (envelope.V0 signed) = record { 0 = signed.tx.source_account_ed25519 }
fee_source_of (envelope.V1 signed) = account_of signed.tx.source_account
fee_source_of (envelope.FeeBump signed) = account_of signed.tx.fee_source

-- a bid below 0 counts as 0
abbrev pub not_below_0 : ℤ → ℕ
not_below_0 (pos n) = n
not_below_0 (negsuc n) = 0

-- the most that may be charged, in stroops
abbrev pub bid_of : TransactionEnvelope → ℕ
bid_of (envelope.V0 signed) = signed.tx.fee
bid_of (envelope.V1 signed) = signed.tx.fee
bid_of (envelope.FeeBump signed) = not_below_0 signed.tx.fee

-- how many operations are bid for; a fee bump counts as one more
abbrev pub operation_count : TransactionEnvelope → ℕ
operation_count (envelope.V0 signed) = length signed.tx.operations
operation_count (envelope.V1 signed) = length signed.tx.operations
operation_count (envelope.FeeBump signed) = length signed.tx.inner_tx.tx.operations + 1
