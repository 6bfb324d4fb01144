-- INFLATION (InflationOpFrame in stellar-core, which has paid nothing since protocol 12; CAP-0026). Here it is not
-- supported.
use Rattle.std.specs.Prelude.{Err}
use Rattle.op_types.specs.declared.operation_result.OperationResult.TheVariants.{NotSupported}
use Rattle.op_form.specs.Done.{Attempt}

abbrev pub inflation : Attempt
inflation = Err NotSupported
