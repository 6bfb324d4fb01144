-- The steps of an operation, in their order. A step gives what the next one goes on with, or the result of an operation
-- that it ends.
use Rattle.std.specs.Prelude.{◌≡◌, List, Option, Some, None, Result, Ok, Err}
use Rattle.op_types.specs.declared.operation_result.OperationResult.{OperationResult}
use Rattle.entry_map.specs.EntryMap.{EntryMap}
use Rattle.entry_map.specs.Undo.{Undo, with_current}
use Rattle.entry_slots.specs.Tests.{Tests, first_fault}
use Rattle.sponsor_rules.specs.declared.context.Ctx.{Ctx}
use Rattle.sponsor_rules.specs.declared.fault.AddFault.{AddFault}
use Rattle.op_form.specs.Done.{Move, Attempt}
use Rattle.op_form.specs.Faults.{fault_result}

abbrev pub unless_result : {A : Type 0} → Option OperationResult → Result A OperationResult → Result A OperationResult
unless_result None next = next
unless_result (Some result) next = Err result

-- ends with the result of the first test that holds, else goes on
abbrev pub unless_refused : {A : Type 0} → Tests OperationResult → Result A OperationResult → Result A OperationResult
unless_refused tests next = unless_result (first_fault tests) next

-- goes on with what a step gives, where it doesn't end the operation
abbrev pub after : {A B : Type 0} → Result A OperationResult → (A → Result B OperationResult) → Result B OperationResult
after (Err result) next = Err result
after (Ok a) next = next a

-- goes on with what there is, or ends with the result where there is nothing
abbrev pub after_some : {A B : Type 0} → Option A → OperationResult → (A → Result B OperationResult)
    → Result B OperationResult
after_some None result next = Err result
after_some (Some a) result next = next a

-- Goes on with the map that an addition or a move gives, or ends with what answers its fault. `low` is the operation's
-- own result for a reserve that can't be paid.
abbrev pub after_charge : {B : Type 0} → Result EntryMap AddFault → OperationResult
    → (EntryMap → Result B OperationResult) → Result B OperationResult
after_charge (Err fault) low next = Err (fault_result fault low)
after_charge (Ok m) low next = next m

-- the operation succeeds, and leaves this context and this map
abbrev pub success : Ctx → OperationResult → EntryMap → List Move → Attempt
success ctx result m moves = Ok (record { result = result; entries = m; ctx = ctx; moves = moves })

-- goes on with the map that a step gives, or ends with what answers its fault
abbrev pub after_step : {B F : Type 0} → Result EntryMap F → (F → OperationResult)
    → (EntryMap → Result B OperationResult)
    → Result B OperationResult
after_step (Err fault) answers next = Err (answers fault)
after_step (Ok m) answers next = next m

-- ---- calls

-- The call made the step and answered nothing, or answered the step's fault and left the map. A fault is here whatever
-- a step gives that isn't made, as the result that ends an operation.
abbrev pub IsStep : {F : Type 0} → Option F → Undo → Undo → Result EntryMap F → Type 0
IsStep None old new step = (step ≡ Ok new.current) × (new ≡ with_current old new.current)
IsStep (Some fault) old new step = (step ≡ Err fault) × (new ≡ old)
