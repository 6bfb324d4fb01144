-- What an envelope that has an encoding says of its transaction.
use Rattle.tx_apply.proofs.Prelude.{◌≤◌, arith, length, list, Transaction, TransactionV0, TransactionV0Envelope}
use Rattle.tx_apply.proofs.Prelude.{TransactionV1Envelope, FeeBumpTransactionEnvelope, TransactionEnvelope}
use Rattle.tx_apply.proofs.Prelude.{transaction_tail, transaction, transaction_v1_envelope, fee_bump_transaction}
use Rattle.tx_apply.proofs.Prelude.{fee_bump_envelope, transaction_v0, transaction_v0_envelope, transaction_envelope}
use Rattle.tx_apply.proofs.Prelude.{operations_of}
use Rattle.op_types.specs.declared.preconditions.Preconditions.{Preconditions}
use Rattle.op_types.specs.declared.preconditions.Preconditions.TheVariants as conditions
use Rattle.op_types.specs.declared.preconditions.PreconditionsV2.{PreconditionsV2}
use Rattle.op_types.specs.declared.transaction.TransactionEnvelope.TheVariants as envelope
use Rattle.xdr_tx.specs.Transactions.{preconditions, preconditions_v2}
use Rattle.tx_apply.specs.Preconditions.{extra_signers_of}

-- at most 100 operations
few_operations : (tx : Transaction) → transaction.within tx → length tx.operations ≤ 100
unfolding transaction transaction_tail list
few_operations tx within = within.1.1.1.1.1.0.0

pub few_of_v1 : (signed : TransactionV1Envelope) → transaction_v1_envelope.within signed
    → length signed.tx.operations ≤ 100
unfolding transaction_v1_envelope
few_of_v1 signed within = few_operations signed.tx within.0

-- and at most 2 extra signers
signers_of_v2 : (cond : PreconditionsV2) → preconditions_v2.within cond → length cond.extra_signers ≤ 2
unfolding preconditions_v2 list
signers_of_v2 cond within = within.1.1.1.1.1.0

signers_of_conditions : (cond : Preconditions) → preconditions.within cond → length (extra_signers_of cond) ≤ 2
unfolding preconditions
signers_of_conditions conditions.None within = omega arith
signers_of_conditions (conditions.Time bounds) within = omega arith
signers_of_conditions (conditions.V2 all) within = signers_of_v2 all within

few_signers : (tx : Transaction) → transaction.within tx → length (extra_signers_of tx.cond) ≤ 2
unfolding transaction transaction_tail
few_signers tx within = signers_of_conditions tx.cond within.1.1.1.0

pub signers_of_v1 : (signed : TransactionV1Envelope) → transaction_v1_envelope.within signed
    → length (extra_signers_of signed.tx.cond) ≤ 2
unfolding transaction_v1_envelope
signers_of_v1 signed within = few_signers signed.tx within.0

-- the inner transaction of a fee bump has an encoding
inner_within_by : (signed : FeeBumpTransactionEnvelope) → fee_bump_transaction.within signed.tx
    → transaction_v1_envelope.within signed.tx.inner_tx
unfolding fee_bump_transaction
inner_within_by signed within = within.1.1.0.1

pub inner_within : (signed : FeeBumpTransactionEnvelope) → fee_bump_envelope.within signed
    → transaction_v1_envelope.within signed.tx.inner_tx
unfolding fee_bump_envelope
inner_within signed within = inner_within_by signed within.0

-- ---- any envelope

few_of_v0 : (tx : TransactionV0) → transaction_v0.within tx → length tx.operations ≤ 100
unfolding transaction_v0 transaction_tail list
few_of_v0 tx within = within.1.1.1.1.1.0.0

few_of_v0_envelope : (signed : TransactionV0Envelope) → transaction_v0_envelope.within signed
    → length signed.tx.operations ≤ 100
unfolding transaction_v0_envelope
few_of_v0_envelope signed within = few_of_v0 signed.tx within.0

pub few_of : (entire : TransactionEnvelope) → transaction_envelope.within entire → length (operations_of entire) ≤ 100
unfolding transaction_envelope
few_of (envelope.V0 signed) within = few_of_v0_envelope signed within
few_of (envelope.V1 signed) within = few_of_v1 signed within
few_of (envelope.FeeBump signed) within = few_of_v1 signed.tx.inner_tx (inner_within signed within)
