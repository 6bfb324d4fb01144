use Rattle.op_payment.proofs.Prelude.{sym, subst, ◌∙◌, AreTradeBounds, carried_of}
use Rattle.op_payment.proofs.HopsMade.{receiving_bounds, receiving_fits, received_on, not_received}
use Rattle.op_payment.proofs.path.receive_hop.Goals as goal

pub hopped-requires-clause-bounds : goal.hopped-requires-clause-bounds
hopped-requires-clause-bounds g c =
    let from = carried_of c.args.carried c.args.entries.now.current in
    subst AreTradeBounds (sym (c.receiving-trade.ensures c.args.entries.now.current))
    (receiving_bounds c.args.ctx.now c.args.sheep.now c.args.wheat.now from)

pub needed_before-requires : goal.needed_before-requires
needed_before-requires g c =
    receiving_fits c.args.ctx.now c.args.sheep.now c.args.wheat.now c.args.carried c.receiving-trade.result
    c.args.entries.now c.hopped.new.entries (sym c.is_same.ensures.tied ∙ c.if-is_same.false)
    c.receiving-trade.ensures c.in_ok-done.field-0 c.in-Ok.done c.in-Ok.is c.requires.crossable
    c.in_ok-done.ensures.hopped

pub returns-in_ok-needed_before-in-Ok : goal.returns-in_ok-needed_before-in-Ok
returns-in_ok-needed_before-in-Ok g c =
    received_on c.args.ctx.now c.args.sheep.now c.args.wheat.now c.args.carried c.receiving-trade.result
    c.args.entries.now c.hopped.new.entries (sym c.is_same.ensures.tied ∙ c.if-is_same.false)
    c.receiving-trade.ensures c.in_ok-done.field-0 c.in-Ok.done c.in-Ok.is c.in_ok-done.ensures.hopped
    c.in_ok-done.ensures.crossable c.in_ok-needed_before-in-Ok.field-0 c.in_ok-needed_before-in-Ok.ensures

pub returns-in-Err : goal.returns-in-Err
returns-in-Err g c =
    not_received c.args.ctx.now c.args.sheep.now c.args.wheat.now c.args.carried c.receiving-trade.result
    c.args.entries.now c.hopped.new.entries (sym c.is_same.ensures.tied ∙ c.if-is_same.false)
    c.receiving-trade.ensures c.in_ok-done.field-0 c.in-Err.fault c.in-Err.is c.in_ok-done.ensures.hopped
