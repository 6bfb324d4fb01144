-- BUMP_SEQUENCE (BumpSequenceOpFrame in stellar-core; CAP-0001, CAP-0021).
use Rattle.std.specs.Prelude.{◌∷◌, [], pos, int_lt}
use Rattle.op_types.specs.declared.account_ops.BumpSequenceOp.{BumpSequenceOp}
use Rattle.op_types.specs.declared.account_results.BumpSequenceResult.{BumpSequenceResult}
use Rattle.op_types.specs.declared.account_results.BumpSequenceResult.TheVariants as bump
use Rattle.op_types.specs.declared.operation_result.OperationResult.{OperationResult}
use Rattle.op_types.specs.declared.operation_result.OperationResult.TheVariants.{Inner}
use Rattle.op_types.specs.declared.operation_result.OperationResultTr.TheVariants as tr
use Rattle.entry_map.specs.EntryMap.{EntryMap}
use Rattle.entry_slots.specs.AccountExtensions.{with_seq_num_from}
use Rattle.entry_slots.specs.Accounts.{with_account}
use Rattle.sponsor_rules.specs.SeqNums.{new_extension_v3}
use Rattle.sponsor_rules.specs.declared.context.Ctx.{Ctx}
use Rattle.op_form.specs.Done.{Attempt}
use Rattle.op_form.specs.Steps.{unless_refused, success}

abbrev pub answer : BumpSequenceResult → OperationResult
answer code = Inner (tr.BumpSequence code)

abbrev pub bump_sequence : Ctx → BumpSequenceOp → EntryMap → Attempt
bump_sequence ctx bump_op m =
    unless_refused ((int_lt bump_op.bump_to (pos 0), answer bump.BadSeq) ∷ [])
    (success ctx (answer bump.Success)
    (with_account m ctx.op_source (with_seq_num_from bump_op.bump_to (new_extension_v3 ctx))) [])
