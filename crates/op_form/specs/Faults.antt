-- What answers a fault of an addition or of a move (processSponsorshipResult and the frames that add entries in
-- stellar-core; CAP-0033).
use Rattle.op_types.specs.declared.operation_result.OperationResult.{OperationResult}
use Rattle.op_types.specs.declared.operation_result.OperationResult.TheVariants as op
use Rattle.sponsor_rules.specs.declared.fault.AddFault.{AddFault}
use Rattle.sponsor_rules.specs.declared.fault.AddFault.TheVariants as fault

-- Too many subentries, or too much that is paid for, is a code of operations. `low` is the operation's own result for a
-- reserve that can't be paid. An allocation failure answers nothing; it counts as that here.
abbrev pub fault_result : AddFault → OperationResult → OperationResult
fault_result fault.TooManySubentries low = op.TooManySubentries
fault_result fault.TooManySponsoring low = op.TooManySponsoring
fault_result fault.LowReserve low = low
fault_result fault.NoMemory low = low
