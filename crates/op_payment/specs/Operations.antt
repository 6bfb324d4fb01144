-- The operations of this crate, by their types.
use Rattle.std.specs.Prelude.{Err}
use Rattle.op_types.specs.declared.operation.OperationBody.{OperationBody}
use Rattle.op_types.specs.declared.operation.OperationBody.TheVariants as body
use Rattle.op_types.specs.declared.operation_result.OperationResult.TheVariants.{NotSupported}
use Rattle.entry_map.specs.EntryMap.{EntryMap}
use Rattle.sponsor_rules.specs.declared.context.Ctx.{Ctx}
use Rattle.trade_cross.specs.legal_rules.Owing.{AreEntriesLegal}
use Rattle.op_form.specs.Done.{Attempt, Done, done_of}
use Rattle.op_payment.specs.PathReceive.{path_payment_strict_receive}
use Rattle.op_payment.specs.PathSend.{path_payment_strict_send}
use Rattle.op_payment.specs.Payment.{payment}

-- Operations of other types are those of other crates.
abbrev pub attempt_of : Ctx → OperationBody → EntryMap → Attempt
attempt_of ctx (body.Payment payment_op) m = payment ctx payment_op m
attempt_of ctx (body.PathPaymentStrictReceive op) m = path_payment_strict_receive ctx op m
attempt_of ctx (body.PathPaymentStrictSend op) m = path_payment_strict_send ctx op m
attempt_of ctx other m = Err NotSupported

-- what an operation asks of entries: paths go over books and pools
abbrev pub AreEntriesFit : Ctx → OperationBody → EntryMap → Type 0
AreEntriesFit ctx (body.PathPaymentStrictReceive op) m = AreEntriesLegal ctx.id_pool m
AreEntriesFit ctx (body.PathPaymentStrictSend op) m = AreEntriesLegal ctx.id_pool m
AreEntriesFit ctx other m = Unit {0}

unfoldable pub payment_operation : Ctx → OperationBody → EntryMap → Done
payment_operation ctx of m = done_of ctx m (attempt_of ctx of m)
