use Rattle.op_payment.proofs.Prelude.{rules, ◌≡◌, ap, subst, sym, ◌∙◌, false, Ok, w64, to_z, of_z, int_lt}
use Rattle.op_payment.proofs.Prelude.{map_after_debit, IsStep, carried_of, IsTried, arrived}
use Rattle.op_types.specs.declared.payment_results.PathPaymentStrictReceiveResult.TheVariants.{Success}
use Rattle.op_payment.specs.PathReceive.{answer, given}
use Rattle.op_payment.proofs.PathEnds.{given_so}
use Rattle.op_payment.proofs.path_receive.give.Goals as goal

pub returns : goal.returns
returns g c =
    let ctx = c.args.ctx.now in
    let op = c.args.op.now in
    let carried = c.args.carried in
    let old = c.args.entries.now in
    let new = c.debit.new.entries in
    let greatest : to_z w64 (of_z w64 op.send_max) ≡ op.send_max = search rules in
    let amount : to_z w64 (of_z w64 carried.amount) ≡ carried.amount = search rules in
    let wanted : to_z w64 (of_z w64 op.dest_amount) ≡ op.dest_amount = search rules in
    let enough : int_lt op.send_max carried.amount ≡ false =
    (λ i. int_lt (sym greatest i) (sym amount i)) ∙ c.if-op-carried.false in
    let debit = subst (λ n. IsStep c.in_ok-fault.field-0 old new
    (map_after_debit ctx ctx.op_source op.send_asset n old.current)) amount c.in_ok-fault.ensures in
    let yielded = c.arrived.ensures ∙ ap (arrived carried.atoms c.account_id.result op.dest_asset) wanted in
    subst (λ x. IsTried (Ok x) ctx old new (given ctx op (carried_of carried old.current)))
    (sym (c.answer-2.ensures ∙ ap (λ x. answer (Success x)) yielded))
    (given_so ctx op carried old new c.requires.low enough c.in_ok-fault.field-0 c.in_default.is debit
    c.account_id.result c.account_id.ensures)
