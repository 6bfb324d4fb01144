-- The laws of the texts of operations.
use Rattle.std.proofs.Common.{arith}
use Rattle.xdr_core.proofs.FormatLaws.{Laws, var_laws}
use Rattle.xdr_core.specs.Leaves.{var}

pub home_domain_laws : Laws (var 32)
home_domain_laws = var_laws 32 (omega arith)

pub data_value_laws : Laws (var 64)
data_value_laws = var_laws 64 (omega arith)
