-- PATH_PAYMENT_STRICT_RECEIVE (PathPaymentStrictReceiveOpFrame in stellar-core).
use Rattle.std.specs.Prelude.{ℕ, pos, not, ◌||◌, int_le, int_lt, ◌∷◌, [], Result, Ok, Err}
use Rattle.ledger_types.specs.Ids.{account_of}
use Rattle.op_types.specs.declared.operation_result.OperationResult.{OperationResult}
use Rattle.op_types.specs.declared.operation_result.OperationResult.TheVariants.{Inner, ExceededWorkLimit}
use Rattle.op_types.specs.declared.operation_result.OperationResultTr.TheVariants as tr
use Rattle.op_types.specs.declared.payment_ops.PathPaymentStrictReceiveOp.{PathPaymentStrictReceiveOp}
use Rattle.op_types.specs.declared.payment_results.PathPaymentStrictReceiveResult.{PathPaymentStrictReceiveResult}
use Rattle.op_types.specs.declared.payment_results.PathPaymentStrictReceiveResult.TheVariants as path
use Rattle.entry_map.specs.EntryMap.{EntryMap}
use Rattle.sponsor_rules.specs.entry_slots.Tests.{Tests}
use Rattle.sponsor_rules.specs.declared.context.Ctx.{Ctx}
use Rattle.op_form.specs.declared.amounts.CreditFault.{CreditFault}
use Rattle.op_form.specs.declared.amounts.CreditFault.TheVariants as credit
use Rattle.op_form.specs.declared.amounts.DebitFault.{DebitFault}
use Rattle.op_form.specs.declared.amounts.DebitFault.TheVariants as debit
use Rattle.op_form.specs.Amounts.{map_after_credit, map_after_debit}
use Rattle.op_form.specs.Done.{Attempt}
use Rattle.op_form.specs.Steps.{unless_refused, after_step, success}
use Rattle.op_payment.specs.declared.hop_fault.HopFault.{HopFault}
use Rattle.op_payment.specs.declared.hop_fault.HopFault.TheVariants as fault
use Rattle.op_payment.specs.PathPayment.{is_path_valid, is_nobody, arrived, path_moves}
use Rattle.op_payment.specs.Paths.{Carried, set_out, received}

abbrev pub answer : PathPaymentStrictReceiveResult → OperationResult
answer code = Inner (tr.PathPaymentStrictReceive code)

-- ---- tests

abbrev pub asked_tests : PathPaymentStrictReceiveOp → Tests OperationResult
asked_tests op = (
  int_le op.send_max (pos 0) || int_le op.dest_amount (pos 0)
      || not (is_path_valid op.send_asset op.path op.dest_asset),
  answer path.Malformed,
) ∷ []

abbrev pub destination_tests : PathPaymentStrictReceiveOp → EntryMap → Tests OperationResult
destination_tests op m =
    (is_nobody (account_of op.destination) op.send_asset op.path op.dest_asset m, answer path.NoDestination) ∷ []

abbrev pub cost_tests : PathPaymentStrictReceiveOp → (cost : ℕ) → Tests OperationResult
cost_tests op cost = (int_lt op.send_max (pos cost), answer path.OverSendmax) ∷ []

-- ---- faults

abbrev pub credit_result : CreditFault → OperationResult
credit_result credit.NoLine = answer path.NoTrust
credit_result credit.NotAuthorized = answer path.NotAuthorized
credit_result credit.Full = answer path.LineFull

abbrev pub debit_result : DebitFault → OperationResult
debit_result debit.NoLine = answer path.SrcNoTrust
debit_result debit.NotAuthorized = answer path.SrcNotAuthorized
debit_result debit.Short = answer path.Underfunded

abbrev pub path_result : HopFault → OperationResult
path_result fault.CrossSelf = answer path.OfferCrossSelf
path_result fault.TooMany = ExceededWorkLimit
path_result fault.TooFew = answer path.TooFewOffers

-- ---- the operation

abbrev pub after_path : Result Carried HopFault → (Carried → Attempt) → Attempt
after_path (Err fault) next = Err (path_result fault)
after_path (Ok carried) next = next carried

abbrev pub done : Ctx → PathPaymentStrictReceiveOp → Carried → EntryMap → Attempt
done ctx op carried m =
    success ctx
    (answer (path.Success (arrived carried.atoms (account_of op.destination) op.dest_asset op.dest_amount))) m
    (path_moves ctx (account_of op.destination) op.send_asset (pos carried.amount) carried.atoms op.dest_asset
    op.dest_amount)

-- the source gives what the path costs
abbrev pub given : Ctx → PathPaymentStrictReceiveOp → Carried → Attempt
given ctx op carried =
    unless_refused (cost_tests op carried.amount)
    (after_step (map_after_debit ctx ctx.op_source op.send_asset (pos carried.amount) carried.entries) debit_result
    (done ctx op carried))

-- The destination takes the amount first. It is received along the path, from its end to its beginning.
abbrev pub taken_and_given : Ctx → PathPaymentStrictReceiveOp → EntryMap → Attempt
taken_and_given ctx op m =
    after_step (map_after_credit (account_of op.destination) op.dest_asset op.dest_amount m) credit_result
    (λ taken.
    after_path (received ctx op.send_asset op.path op.dest_asset (set_out op.dest_amount taken)) (given ctx op))

abbrev pub path_payment_strict_receive : Ctx → PathPaymentStrictReceiveOp → EntryMap → Attempt
path_payment_strict_receive ctx op m =
    unless_refused (asked_tests op) (unless_refused (destination_tests op m) (taken_and_given ctx op m))
