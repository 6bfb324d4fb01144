use Rattle.std.proofs.Common.{arith}
use Rattle.op_account.proofs.create_account.new_entry.Goals as goal

pub returns-clause-ready : goal.returns-clause-ready
returns-clause-ready c = λ m. record { sponsored = omega arith }
