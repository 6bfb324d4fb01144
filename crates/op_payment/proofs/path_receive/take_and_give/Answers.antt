use Rattle.op_payment.proofs.Prelude.{rules, ◌≡◌, subst, w64, to_z, of_z, pos, ◌≤ℤ◌, map_after_credit, IsStep}
use Rattle.op_payment.proofs.Prelude.{carried_of, set_out_of, IsCarriedSo, received}
use Rattle.op_payment.proofs.PathLegality.{taken_crossable}
use Rattle.op_payment.proofs.PathEnds.{in_range_after, taken_and_given_so}
use Rattle.op_payment.proofs.path_receive.take_and_give.Goals as goal

pub receive-requires-clause-crossable : goal.receive-requires-clause-crossable
receive-requires-clause-crossable g c =
    let op = c.args.op.now in
    let old = c.args.entries.now in
    let taken = c.credit.new.entries in
    let low : pos 0 ≤ℤ op.dest_amount = search rules in
    let amount : to_z w64 (of_z w64 op.dest_amount) ≡ op.dest_amount = search rules in
    let credit = subst (λ n. IsStep c.in_ok-fault.field-0 old taken
    (map_after_credit c.account_id.result op.dest_asset n old.current)) amount c.in_ok-fault.ensures.taken in
    taken_crossable c.args.ctx.now old taken c.requires.legal c.account_id.result op.dest_asset op.dest_amount low
    c.in_ok-fault.field-0 c.in_default.is credit

pub give-requires-clause-in_range : goal.give-requires-clause-in_range
give-requires-clause-in_range g c =
    in_range_after c.in_ok-carried.field-0 c.in-Ok.carried c.in-Ok.is c.credit.new.entries c.receive.new.entries _
    c.in_ok-carried.ensures

pub returns-in-Ok : goal.returns-in-Ok
returns-in-Ok g c =
    let ctx = c.args.ctx.now in
    let op = c.args.op.now in
    let old = c.args.entries.now in
    let taken = c.credit.new.entries in
    let now = c.receive.new.entries in
    let r = c.in_ok-carried.field-0 in
    let hops : c.as_slice.result.now ≡ op.path = search rules in
    let start : c.set_out-carried.result ≡ set_out_of op.dest_amount = search rules in
    let path = subst (λ x. IsCarriedSo r taken now (received ctx op.send_asset op.path op.dest_asset
    (carried_of x taken.current))) start
    (subst (λ x. IsCarriedSo r taken now (received ctx op.send_asset x op.dest_asset
    (carried_of c.set_out-carried.result taken.current))) hops c.in_ok-carried.ensures) in
    let amount : to_z w64 (of_z w64 op.dest_amount) ≡ op.dest_amount = search rules in
    let credit = subst (λ n. IsStep c.in_ok-fault.field-0 old taken
    (map_after_credit c.account_id.result op.dest_asset n old.current)) amount c.in_ok-fault.ensures.taken in
    taken_and_given_so ctx op old taken now c.give.new.entries c.in_ok-fault.field-0 c.in_default.is
    c.account_id.result c.account_id.ensures credit r c.in-Ok.carried c.in-Ok.is path c.give.result
    c.give.ensures
