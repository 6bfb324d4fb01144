-- The operations of an envelope.
use Rattle.std.specs.Prelude.{List}
use Rattle.op_types.specs.declared.operation.Operation.{Operation}
use Rattle.op_types.specs.declared.transaction.TransactionEnvelope.{TransactionEnvelope}
use Rattle.op_types.specs.declared.transaction.TransactionEnvelope.TheVariants as envelope

-- of a fee bump, those of its inner transaction
abbrev pub operations_of : TransactionEnvelope → List Operation
operations_of (envelope.V0 signed) = signed.tx.operations
operations_of (envelope.V1 signed) = signed.tx.operations
operations_of (envelope.FeeBump signed) = signed.tx.inner_tx.tx.operations
