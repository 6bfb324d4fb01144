-- What operations in envelopes that have an encoding say of their lists.
use Rattle.tx_apply.proofs.Prelude.{◌≤◌, length, All, All-from_recursion, list, Operation, Transaction, TransactionV0}
use Rattle.tx_apply.proofs.Prelude.{TransactionV0Envelope, TransactionV1Envelope, TransactionEnvelope}
use Rattle.tx_apply.proofs.Prelude.{create_claimable_balance_op, operation, operation_body, transaction_tail}
use Rattle.tx_apply.proofs.Prelude.{transaction}
use Rattle.tx_apply.proofs.Prelude.{transaction_v0, transaction_v0_envelope, transaction_v1_envelope}
use Rattle.tx_apply.proofs.Prelude.{transaction_envelope, operations_of}
use Rattle.op_types.specs.declared.balance_ops.CreateClaimableBalanceOp.{CreateClaimableBalanceOp}
use Rattle.op_types.specs.declared.operation.OperationBody.TheVariants as body
use Rattle.op_types.specs.declared.transaction.TransactionEnvelope.TheVariants as envelope
use Rattle.tx_apply.proofs.Encoded.{inner_within}

claimants_few : (op : CreateClaimableBalanceOp) → create_claimable_balance_op.within op → length op.claimants ≤ 10
unfolding create_claimable_balance_op list
claimants_few op within = within.1.1.0

pub balance_claimants_few : (op : CreateClaimableBalanceOp) → operation_body.within (body.CreateClaimableBalance op)
    → length op.claimants ≤ 10
unfolding operation_body
balance_claimants_few op within = claimants_few op within

pub body_within : (one : Operation) → operation.within one → operation_body.within one.body
unfolding operation
body_within one within = within.1

of_transaction : (tx : Transaction) → transaction.within tx → All operation.within tx.operations
unfolding transaction transaction_tail list
of_transaction tx within = All-from_recursion operation.within tx.operations within.1.1.1.1.1.0.1

of_v0 : (tx : TransactionV0) → transaction_v0.within tx → All operation.within tx.operations
unfolding transaction_v0 transaction_tail list
of_v0 tx within = All-from_recursion operation.within tx.operations within.1.1.1.1.1.0.1

of_v1_envelope : (signed : TransactionV1Envelope) → transaction_v1_envelope.within signed
    → All operation.within signed.tx.operations
unfolding transaction_v1_envelope
of_v1_envelope signed within = of_transaction signed.tx within.0

of_v0_envelope : (signed : TransactionV0Envelope) → transaction_v0_envelope.within signed
    → All operation.within signed.tx.operations
unfolding transaction_v0_envelope
of_v0_envelope signed within = of_v0 signed.tx within.0

pub operations_within : (entire : TransactionEnvelope) → transaction_envelope.within entire
    → All operation.within (operations_of entire)
unfolding transaction_envelope
operations_within (envelope.V0 signed) within = of_v0_envelope signed within
operations_within (envelope.V1 signed) within = of_v1_envelope signed within
operations_within (envelope.FeeBump signed) within = of_v1_envelope signed.tx.inner_tx (inner_within signed within)
