-- The operations of this crate, by their types.
use Rattle.std.specs.Prelude.{Err}
use Rattle.op_types.specs.declared.operation.OperationBody.{OperationBody}
use Rattle.op_types.specs.declared.operation.OperationBody.TheVariants as body
use Rattle.op_types.specs.declared.operation_result.OperationResult.TheVariants.{NotSupported}
use Rattle.entry_map.specs.EntryMap.{EntryMap}
use Rattle.sponsor_rules.specs.declared.context.Ctx.{Ctx}
use Rattle.op_form.specs.Done.{Attempt, Done, done_of}
use Rattle.op_account.specs.AccountMerge.{account_merge}
use Rattle.op_account.specs.BumpSequence.{bump_sequence}
use Rattle.op_account.specs.CreateAccount.{create_account}
use Rattle.op_account.specs.Inflation.{inflation}

-- Operations of other types are those of other crates.
abbrev pub attempt_of : Ctx → OperationBody → EntryMap → Attempt
attempt_of ctx (body.CreateAccount create_op) m = create_account ctx create_op m
attempt_of ctx (body.AccountMerge merge_op) m = account_merge ctx merge_op m
attempt_of ctx body.Inflation m = inflation
attempt_of ctx (body.BumpSequence bump_op) m = bump_sequence ctx bump_op m
attempt_of ctx other m = Err NotSupported

unfoldable pub account_operation : Ctx → OperationBody → EntryMap → Done
account_operation ctx of m = done_of ctx m (attempt_of ctx of m)
