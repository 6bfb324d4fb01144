-- What a record that has an encoding says of the transactions of its set.
use Rattle.close_laws.proofs.Prelude.{◌<◌, ◌≤◌, List, length, All, arith, ints, ℤ, ◌≤ℤ◌, FitsSigned, w64}
use Rattle.close_laws.proofs.Prelude.{greatest_i64}
use Rattle.close_laws.proofs.Prelude.{Operation, OperationBody, Transaction, TransactionV1Envelope, TransactionEnvelope}
use Rattle.close_laws.proofs.Prelude.{TransactionSet, i64, list_of, claimant, operation, operation_body}
use Rattle.close_laws.proofs.Prelude.{bump_sequence_op, change_trust_op, create_claimable_balance_op, transaction_tail}
use Rattle.close_laws.proofs.Prelude.{transaction, transaction_v0, transaction_v1_envelope, transaction_v0_envelope}
use Rattle.close_laws.proofs.Prelude.{fee_bump_transaction, fee_bump_envelope, transaction_envelope, transaction_set}
use Rattle.close_laws.proofs.Prelude.{CloseRecord, close_record, IsFit, operations_of, AreFit, AreAllFit, IsEncoded}
use Rattle.close_rules.specs.ledger_types.declared.header.StellarValue.{StellarValue}
use Rattle.close_rules.specs.xdr_header.Header.{stellar_value}
use Rattle.close_rules.specs.op_types.declared.operation.OperationBody.TheVariants as body
use Rattle.close_rules.specs.op_types.declared.transaction.TransactionV0.{TransactionV0}
use Rattle.close_rules.specs.op_types.declared.transaction.TransactionEnvelope.TheVariants as envelope
use Rattle.close_laws.proofs.Encoded.{each_encoded, few_encoded}
use Rattle.close_laws.proofs.ShortEntries.{u64_of}

-- ---- sets

pub set_encoded : (closing : CloseRecord) → IsEncoded close_record closing → IsEncoded transaction_set closing.tx_set
unfolding close_record
set_encoded closing encoded = record { within = encoded.within.1.1.0; sized = encoded.sized.1.0 }

value_time : (value : StellarValue) → stellar_value.sized value → value.close_time < 18446744073709551616
unfolding stellar_value
value_time value sized = u64_of value.close_time sized.1.0

-- the close time is a uint64
pub time_fits : (closing : CloseRecord) → IsEncoded close_record closing
    → closing.scp_value.close_time < 18446744073709551616
unfolding close_record
time_fits closing encoded = value_time closing.scp_value encoded.sized.1.1.0

txs_encoded : (set : TransactionSet) → IsEncoded transaction_set set
    → IsEncoded (list_of 4294967295 transaction_envelope) set.txs
unfolding transaction_set
txs_encoded set encoded = record { within = encoded.within.1; sized = encoded.sized.1 }

pub envelopes_encoded : (set : TransactionSet) → IsEncoded transaction_set set
    → All (IsEncoded transaction_envelope) set.txs
envelopes_encoded set encoded = each_encoded 4294967295 transaction_envelope set.txs (txs_encoded set encoded)

pub envelopes_few : (set : TransactionSet) → IsEncoded transaction_set set → length set.txs ≤ 4294967295
envelopes_few set encoded = few_encoded 4294967295 transaction_envelope set.txs (txs_encoded set encoded)

-- ---- transactions

pub operations_encoded : (tx : Transaction) → IsEncoded transaction tx → IsEncoded (list_of 100 operation) tx.operations
unfolding transaction transaction_tail
operations_encoded tx encoded = record { within = encoded.within.1.1.1.1.1.0; sized = encoded.sized.1.1.1.1.1.0 }

pub v0_operations_encoded : (tx : TransactionV0) → IsEncoded transaction_v0 tx
    → IsEncoded (list_of 100 operation) tx.operations
unfolding transaction_v0 transaction_tail
v0_operations_encoded tx encoded = record { within = encoded.within.1.1.1.1.1.0; sized = encoded.sized.1.1.1.1.1.0 }

pub v1_encoded : (signed : TransactionV1Envelope) → IsEncoded transaction_v1_envelope signed
    → IsEncoded transaction signed.tx
unfolding transaction_v1_envelope
v1_encoded signed encoded = record { within = encoded.within.0; sized = encoded.sized.0 }

pub all_operations_encoded : (entire : TransactionEnvelope) → IsEncoded transaction_envelope entire
    → IsEncoded (list_of 100 operation) (operations_of entire)
unfolding transaction_envelope transaction_v0_envelope fee_bump_envelope fee_bump_transaction
all_operations_encoded (envelope.V0 signed) encoded =
    v0_operations_encoded signed.tx (record { within = encoded.within.0; sized = encoded.sized.0 })
all_operations_encoded (envelope.V1 signed) encoded =
    operations_encoded signed.tx
    (v1_encoded signed (record { within = encoded.within; sized = encoded.sized }))
all_operations_encoded (envelope.FeeBump signed) encoded =
    operations_encoded signed.tx.inner_tx.tx (v1_encoded signed.tx.inner_tx
    (record { within = encoded.within.0.1.1.0.1; sized = encoded.sized.0.1.1.0.1 }))

pub body_encoded : (of : Operation) → IsEncoded operation of → IsEncoded operation_body of.body
unfolding operation
body_encoded of encoded = record { within = encoded.within.1; sized = encoded.sized.1 }

-- ---- the numbers and the lists of operations

int_fits : (n : ℤ) → FitsSigned w64 n → n ≤ℤ greatest_i64
int_fits n fits = grind (arith, ints, fits)

sized_i64 : (n : ℤ) → i64.sized n → FitsSigned w64 n
unfolding i64
sized_i64 n sized = sized

pub body_fit : (of : OperationBody) → IsEncoded operation_body of → IsFit of
unfolding operation_body bump_sequence_op change_trust_op create_claimable_balance_op
body_fit (body.BumpSequence op) encoded = int_fits op.bump_to (sized_i64 op.bump_to encoded.sized)
body_fit (body.ChangeTrust op) encoded = int_fits op.limit (sized_i64 op.limit encoded.sized.1)
body_fit (body.CreateClaimableBalance op) encoded =
    few_encoded 10 claimant op.claimants (record { within = encoded.within.1.1; sized = encoded.sized.1.1 })
body_fit other encoded = tt

pub operations_fit : (operations : List Operation) → All (IsEncoded operation) operations → AreFit operations
operations_fit operations all = λ k d within. body_fit _ (body_encoded _ (all k d within))

pub set_fit : (set : TransactionSet) → IsEncoded transaction_set set → AreAllFit set.txs
set_fit set encoded = λ k d within.
    operations_fit _ (each_encoded 100 operation _ (all_operations_encoded _
    (envelopes_encoded set encoded k d within)))
