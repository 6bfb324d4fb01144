-- PAYMENT, step by step, by what holds of its successes.
use Rattle.entry_map.specs.EntryMap.{EntryMap}
use Rattle.ledger_types.specs.Ids.{account_of}
use Rattle.op_form.specs.Amounts.{map_after_credit, map_after_debit}
use Rattle.op_form.specs.Done.{Done}
use Rattle.op_form.specs.Steps.{unless_refused}
use Rattle.op_form.specs.declared.amounts.CreditFault.{CreditFault}
use Rattle.op_form.specs.declared.amounts.DebitFault.{DebitFault}
use Rattle.op_types.specs.declared.payment_ops.PaymentOp.{PaymentOp}
use Rattle.op_types.specs.declared.payment_results.PaymentResult.{PaymentResult}
use Rattle.sponsor_rules.specs.declared.context.Ctx.{Ctx}
use Rattle.std.specs.Prelude.{Ok, [], true, ◌∷◌, ◌≡◌}
use Rattle.op_form.proofs.AmountSteps.{credit_holds, debit_holds}
use Rattle.op_form.proofs.Steps.{AllPass, Answering, Ends, either_ends, past, past_step}
use Rattle.op_form.proofs.Walks.{Before, Leaves, Left, Logic, left, made_holds, succeeded}
use Rattle.op_form.specs.declared.amounts.CreditFault.TheVariants as credit
use Rattle.op_form.specs.declared.amounts.DebitFault.TheVariants as debit
use Rattle.op_payment.specs.Payment as paying
use Rattle.op_types.specs.declared.operation_result.OperationResultTr.TheVariants as tr
use Rattle.op_types.specs.declared.payment_results.PaymentResult.TheVariants as pay

module _ (x : Answering) where
  code : (c : PaymentResult) → x.Answer (paying.answer c)
  code c = x.bare (tr.Payment c) tt

  credited : (found : CreditFault) → x.Answer (paying.credit_result found)
  credited credit.NoLine = code pay.NoTrust
  credited credit.NotAuthorized = code pay.NotAuthorized
  credited credit.Full = code pay.LineFull

  debited : (found : DebitFault) → x.Answer (paying.debit_result found)
  debited debit.NoLine = code pay.SrcNoTrust
  debited debit.NotAuthorized = code pay.SrcNotAuthorized
  debited debit.Short = code pay.Underfunded

abbrev pub paid_so : Ctx → PaymentOp → EntryMap → Done
paid_so ctx op new = succeeded ctx (paying.answer pay.Success) new (paying.payment_move ctx op ∷ [])

pub payment_steps : (x : Answering) (Q : Done → Type 0) (ctx : Ctx) (op : PaymentOp) (m : EntryMap)
    → (AllPass (paying.payment_tests op) → paying.is_to_itself ctx op ≡ true → Q (paid_so ctx op m))
    → ((taken given : EntryMap) → AllPass (paying.payment_tests op)
    → map_after_credit (account_of op.destination) op.asset op.amount m ≡ Ok taken
    → map_after_debit ctx ctx.op_source op.asset op.amount taken ≡ Ok given → Q (paid_so ctx op given))
    → Ends x Q (paying.payment ctx op m)
payment_steps x Q ctx op m itself both =
    past (paying.payment_tests op) _ (code x pay.Malformed, tt)
    (λ pass. either_ends (paying.is_to_itself ctx op) (paying.paid ctx op m)
    (unless_refused (paying.destination_tests op m) (paying.taken_and_given ctx op m))
    (λ same. record { ends = itself pass same })
    (λ other. past (paying.destination_tests op m) (paying.taken_and_given ctx op m) (code x pay.NoDestination, tt)
    (λ there. past_step (map_after_credit (account_of op.destination) op.asset op.amount m) paying.credit_result _
    (credited x)
    (λ taken is. past_step (map_after_debit ctx ctx.op_source op.asset op.amount taken) paying.debit_result _
    (debited x) (λ given also. record { ends = both taken given pass is also })))))

pub payment_made : (w : Logic) (ctx : Ctx) (op : PaymentOp) (m : EntryMap) → Before w ctx m
    → Leaves w (paying.payment ctx op m)
payment_made w ctx op m before =
    payment_steps w.answers (Left w) ctx op m
    (λ pass same. left (tr.Payment pay.Success) tt before before.entries)
    (λ taken given pass is also. left (tr.Payment pay.Success) tt before (made_holds w.inv _ given also
    (debit_holds w.inv ctx.op_source op.amount taken (made_holds w.inv _ taken is
    (credit_holds w.inv (account_of op.destination) op.amount m before.entries op.asset)) ctx op.asset)))
