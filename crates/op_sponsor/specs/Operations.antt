-- The operations of this crate, by their types.
use Rattle.std.specs.Prelude.{Err}
use Rattle.op_types.specs.declared.operation.OperationBody.{OperationBody}
use Rattle.op_types.specs.declared.operation.OperationBody.TheVariants as body
use Rattle.op_types.specs.declared.operation_result.OperationResult.TheVariants.{NotSupported}
use Rattle.entry_map.specs.EntryMap.{EntryMap}
use Rattle.sponsor_rules.specs.declared.context.Ctx.{Ctx}
use Rattle.op_form.specs.Done.{Attempt, Done, done_of}
use Rattle.op_sponsor.specs.BeginSponsoringFutureReserves.{begin_sponsoring}
use Rattle.op_sponsor.specs.EndSponsoringFutureReserves.{end_sponsoring}
use Rattle.op_sponsor.specs.RevokeSponsorship.{revoke_sponsorship}

-- Operations of other types are those of other crates.
abbrev pub attempt_of : Ctx → OperationBody → EntryMap → Attempt
attempt_of ctx (body.BeginSponsoringFutureReserves begin_op) m = begin_sponsoring ctx begin_op m
attempt_of ctx body.EndSponsoringFutureReserves m = end_sponsoring ctx m
attempt_of ctx (body.RevokeSponsorship revoke_op) m = revoke_sponsorship ctx revoke_op m
attempt_of ctx other m = Err NotSupported

unfoldable pub sponsor_operation : Ctx → OperationBody → EntryMap → Done
sponsor_operation ctx of m = done_of ctx m (attempt_of ctx of m)
