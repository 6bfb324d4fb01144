-- The operations of this crate, by their types.
use Rattle.std.specs.Prelude.{Err}
use Rattle.op_types.specs.declared.operation.OperationBody.{OperationBody}
use Rattle.op_types.specs.declared.operation.OperationBody.TheVariants as body
use Rattle.op_types.specs.declared.operation_result.OperationResult.TheVariants.{NotSupported}
use Rattle.entry_map.specs.EntryMap.{EntryMap}
use Rattle.sponsor_rules.specs.declared.context.Ctx.{Ctx}
use Rattle.op_form.specs.Done.{Attempt, Done, done_of}
use Rattle.op_options.specs.ManageData.{manage_data}
use Rattle.op_options.specs.SetOptions.{set_options}

-- Operations of other types are those of other crates.
abbrev pub attempt_of : Ctx → OperationBody → EntryMap → Attempt
attempt_of ctx (body.SetOptions set_op) m = set_options ctx set_op m
attempt_of ctx (body.ManageData data_op) m = manage_data ctx data_op m
attempt_of ctx other m = Err NotSupported

unfoldable pub options_operation : Ctx → OperationBody → EntryMap → Done
options_operation ctx of m = done_of ctx m (attempt_of ctx of m)
