-- PAYMENT (PaymentOpFrame in stellar-core, without its detour through a path payment; CAP-0003, CAP-0018).
use Rattle.std.specs.Prelude.{not, ◌&&◌, ◌||◌, ◌∷◌, [], pos, int_le, is_some, Bool, if◌then◌else◌}
use Rattle.ledger_types.specs.Ids.{account_of}
use Rattle.op_types.specs.declared.operation_result.OperationResult.{OperationResult}
use Rattle.op_types.specs.declared.operation_result.OperationResult.TheVariants.{Inner}
use Rattle.op_types.specs.declared.operation_result.OperationResultTr.TheVariants as tr
use Rattle.op_types.specs.declared.payment_ops.PaymentOp.{PaymentOp}
use Rattle.op_types.specs.declared.payment_results.PaymentResult.{PaymentResult}
use Rattle.op_types.specs.declared.payment_results.PaymentResult.TheVariants as pay
use Rattle.valid_values.specs.Assets.{is_valid_asset}
use Rattle.entry_map.specs.EntryMap.{EntryMap}
use Rattle.sponsor_rules.specs.entry_slots.Accounts.{account_at}
use Rattle.sponsor_rules.specs.entry_slots.Tests.{Tests}
use Rattle.sponsor_rules.specs.declared.context.Ctx.{Ctx}
use Rattle.sponsor_rules.specs.Payers.{is_same_account}
use Rattle.op_form.specs.declared.amounts.CreditFault.{CreditFault}
use Rattle.op_form.specs.declared.amounts.CreditFault.TheVariants as credit
use Rattle.op_form.specs.declared.amounts.DebitFault.{DebitFault}
use Rattle.op_form.specs.declared.amounts.DebitFault.TheVariants as debit
use Rattle.op_form.specs.Done.{Attempt, Move}
use Rattle.op_form.specs.Done.{OfAccount}
use Rattle.op_form.specs.Assets.{is_native, is_issued_by}
use Rattle.op_form.specs.Amounts.{map_after_credit, map_after_debit}
use Rattle.op_form.specs.Steps.{unless_refused, after_step, success}

abbrev pub answer : PaymentResult → OperationResult
answer code = Inner (tr.Payment code)

-- ---- tests

abbrev pub payment_tests : PaymentOp → Tests OperationResult
payment_tests payment_op =
    (int_le payment_op.amount (pos 0) || not (is_valid_asset payment_op.asset), answer pay.Malformed) ∷ []

-- what is paid to its issuer needs no account of it
abbrev pub destination_tests : PaymentOp → EntryMap → Tests OperationResult
destination_tests payment_op m = (
  not (is_issued_by payment_op.asset (account_of payment_op.destination))
      && not (is_some (account_at m (account_of payment_op.destination))),
  answer pay.NoDestination,
) ∷ []

-- lumens that an account pays to itself
abbrev pub is_to_itself : Ctx → PaymentOp → Bool
is_to_itself ctx payment_op =
    is_native payment_op.asset && is_same_account (account_of payment_op.destination) ctx.op_source

-- ---- the operation

abbrev pub credit_result : CreditFault → OperationResult
credit_result credit.NoLine = answer pay.NoTrust
credit_result credit.NotAuthorized = answer pay.NotAuthorized
credit_result credit.Full = answer pay.LineFull

abbrev pub debit_result : DebitFault → OperationResult
debit_result debit.NoLine = answer pay.SrcNoTrust
debit_result debit.NotAuthorized = answer pay.SrcNotAuthorized
debit_result debit.Short = answer pay.Underfunded

abbrev pub payment_move : Ctx → PaymentOp → Move
payment_move ctx payment_op =
    record {
      from = OfAccount ctx.op_source;
      to = OfAccount (account_of payment_op.destination);
      asset = payment_op.asset;
      amount = payment_op.amount;
    }

abbrev pub paid : Ctx → PaymentOp → EntryMap → Attempt
paid ctx payment_op m = success ctx (answer pay.Success) m (payment_move ctx payment_op ∷ [])

-- the destination takes the amount, and then the source gives it
abbrev pub taken_and_given : Ctx → PaymentOp → EntryMap → Attempt
taken_and_given ctx payment_op m =
    after_step (map_after_credit (account_of payment_op.destination) payment_op.asset payment_op.amount m) credit_result
    (λ taken. after_step (map_after_debit ctx ctx.op_source payment_op.asset payment_op.amount taken) debit_result
    (λ given. paid ctx payment_op given))

-- who pays lumens to himself changes nothing, whatever he has
abbrev pub payment : Ctx → PaymentOp → EntryMap → Attempt
payment ctx payment_op m =
    unless_refused (payment_tests payment_op)
    (if is_to_itself ctx payment_op then paid ctx payment_op m
    else unless_refused (destination_tests payment_op m) (taken_and_given ctx payment_op m))
