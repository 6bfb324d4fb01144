-- The hashes of values: SHA-256 of the one encoding, and of what the protocol puts before it (CAP-0015,
-- Stellar-transaction.x, Stellar-ledger.x).
use Rattle.std.specs.Prelude.{pos, ◌++◌}
use Rattle.xdr_core.specs.Leaves.{i32}
use Rattle.ledger_types.specs.declared.ids.Hash.{Hash}
use Rattle.op_types.specs.declared.transaction.Transaction.{Transaction}
use Rattle.op_types.specs.declared.transaction.TransactionV0.{TransactionV0}
use Rattle.op_types.specs.declared.transaction.FeeBumpTransaction.{FeeBumpTransaction}
use Rattle.op_types.specs.declared.transaction.TransactionEnvelope.{TransactionEnvelope}
use Rattle.op_types.specs.declared.transaction.TransactionEnvelope.TheVariants as envelope
use Rattle.ledger_types.specs.declared.header.LedgerHeader.{LedgerHeader}
use Rattle.op_types.specs.declared.transaction_result.TransactionResultSet.{TransactionResultSet}
use Rattle.xdr_tx.specs.Transactions.{transaction, transaction_v0, fee_bump_transaction, transaction_envelope}
use Rattle.xdr_results.specs.Results.{transaction_result_set}
use Rattle.xdr_header.specs.Header.{ledger_header}
use Rattle.hash_ids.specs.Ids.{hash_of, tx_hash_of}

-- the hash of a transaction, whose envelope has the type 2
abbrev pub transaction_hash_of : Hash → Transaction → Hash
transaction_hash_of network tx = tx_hash_of network 2 (transaction.encoding tx)

-- the hash of a transaction of the first version: as that of a transaction, whose source begins with the type 0 of its
-- key
abbrev pub transaction_v0_hash_of : Hash → TransactionV0 → Hash
transaction_v0_hash_of network tx = tx_hash_of network 2 (i32.encoding (pos 0) ++ transaction_v0.encoding tx)

-- the hash of a fee bump, whose envelope has the type 5
abbrev pub fee_bump_hash_of : Hash → FeeBumpTransaction → Hash
fee_bump_hash_of network tx = tx_hash_of network 5 (fee_bump_transaction.encoding tx)

-- the hash that the signatures of an envelope are made over
abbrev pub signed_hash_of : Hash → TransactionEnvelope → Hash
signed_hash_of network (envelope.V0 inner) = transaction_v0_hash_of network inner.tx
signed_hash_of network (envelope.V1 inner) = transaction_hash_of network inner.tx
signed_hash_of network (envelope.FeeBump inner) = fee_bump_hash_of network inner.tx

-- the hash of an envelope with its signatures
abbrev pub envelope_hash_of : TransactionEnvelope → Hash
envelope_hash_of entire = hash_of (transaction_envelope.encoding entire)

-- the hash of a ledger: that of its header
abbrev pub ledger_hash_of : LedgerHeader → Hash
ledger_hash_of header = hash_of (ledger_header.encoding header)

-- the hash of a ledger's results
abbrev pub results_hash_of : TransactionResultSet → Hash
results_hash_of results = hash_of (transaction_result_set.encoding results)
