use Rattle.op_payment.proofs.Prelude.{rules, ◌≡◌, ap, subst, sym, ◌∙◌, false, Ok, w64, to_z, of_z, int_lt}
use Rattle.op_payment.proofs.Prelude.{map_after_credit, IsStep, carried_of, IsTried, arrived}
use Rattle.op_types.specs.declared.payment_results.PathPaymentStrictSendResult.TheVariants.{Success}
use Rattle.op_payment.specs.PathSend.{answer, taken}
use Rattle.op_payment.proofs.PathEnds.{taken_so}
use Rattle.op_payment.proofs.path_send.take.Goals as goal

pub returns : goal.returns
returns g c =
    let ctx = c.args.ctx.now in
    let op = c.args.op.now in
    let carried = c.args.carried in
    let old = c.args.entries.now in
    let new = c.credit.new.entries in
    let id = c.account_id-destination.result in
    let least : to_z w64 (of_z w64 op.dest_min) ≡ op.dest_min = search rules in
    let amount : to_z w64 (of_z w64 carried.amount) ≡ carried.amount = search rules in
    let enough : int_lt carried.amount op.dest_min ≡ false =
    (λ i. int_lt (sym amount i) (sym least i)) ∙ c.if-carried-op.false in
    let credit = subst (λ n. IsStep c.in_ok-fault.field-0 old new (map_after_credit id op.dest_asset n old.current))
    amount
    c.in_ok-fault.ensures.taken in
    let yielded = c.arrived.ensures ∙ ap (arrived carried.atoms id op.dest_asset) amount in
    subst (λ x. IsTried (Ok x) ctx old new (taken ctx op (carried_of carried old.current)))
    (sym (c.answer-2.ensures ∙ ap (λ x. answer (Success x)) yielded))
    (taken_so ctx op carried old new c.requires.low enough c.in_ok-fault.field-0 c.in_default.is id
    c.account_id-destination.ensures credit)
