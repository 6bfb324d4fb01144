use Rattle.op_payment.proofs.Prelude.{rules, ◌≡◌, subst, w64, to_z, of_z, pos, ◌≤ℤ◌, map_after_debit, IsStep}
use Rattle.op_payment.proofs.Prelude.{carried_of, set_out_of, IsCarriedSo, sent}
use Rattle.op_payment.proofs.PathLegality.{given_crossable}
use Rattle.op_payment.proofs.PathEnds.{in_range_after, given_and_taken_so}
use Rattle.op_payment.proofs.path_send.give_and_take.Goals as goal

pub send-requires-clause-crossable : goal.send-requires-clause-crossable
send-requires-clause-crossable g c =
    let ctx = c.args.ctx.now in
    let op = c.args.op.now in
    let old = c.args.entries.now in
    let given = c.debit.new.entries in
    let low : pos 0 ≤ℤ op.send_amount = search rules in
    let amount : to_z w64 (of_z w64 op.send_amount) ≡ op.send_amount = search rules in
    let debit = subst (λ n. IsStep c.in_ok-fault.field-0 old given
    (map_after_debit ctx ctx.op_source op.send_asset n old.current)) amount c.in_ok-fault.ensures in
    given_crossable ctx old given c.requires.legal ctx.op_source op.send_asset op.send_amount low c.in_ok-fault.field-0
    c.in_default.is debit

pub take-requires-clause-in_range : goal.take-requires-clause-in_range
take-requires-clause-in_range g c =
    in_range_after c.in_ok-carried.field-0 c.in-Ok.carried c.in-Ok.is c.debit.new.entries c.send.new.entries _
    c.in_ok-carried.ensures

pub returns-in-Ok : goal.returns-in-Ok
returns-in-Ok g c =
    let ctx = c.args.ctx.now in
    let op = c.args.op.now in
    let old = c.args.entries.now in
    let given = c.debit.new.entries in
    let now = c.send.new.entries in
    let r = c.in_ok-carried.field-0 in
    let hops : c.as_slice.result.now ≡ op.path = search rules in
    let start : c.set_out-carried.result ≡ set_out_of op.send_amount = search rules in
    let path = subst (λ x. IsCarriedSo r given now (sent ctx op.send_asset op.path op.dest_asset
    (carried_of x given.current))) start
    (subst (λ x. IsCarriedSo r given now (sent ctx op.send_asset x op.dest_asset
    (carried_of c.set_out-carried.result given.current))) hops c.in_ok-carried.ensures) in
    let amount : to_z w64 (of_z w64 op.send_amount) ≡ op.send_amount = search rules in
    let debit = subst (λ n. IsStep c.in_ok-fault.field-0 old given
    (map_after_debit ctx ctx.op_source op.send_asset n old.current)) amount c.in_ok-fault.ensures in
    given_and_taken_so ctx op old given now c.take.new.entries c.in_ok-fault.field-0 c.in_default.is
    debit r c.in-Ok.carried c.in-Ok.is path c.take.result c.take.ensures
