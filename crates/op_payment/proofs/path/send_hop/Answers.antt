use Rattle.op_payment.proofs.Prelude.{sym, subst, ◌∙◌, AreTradeBounds, carried_of}
use Rattle.op_payment.proofs.HopsMade.{sending_bounds, sending_fits, sent_on, not_sent}
use Rattle.op_payment.proofs.path.send_hop.Goals as goal

pub hopped-requires-clause-bounds : goal.hopped-requires-clause-bounds
hopped-requires-clause-bounds g c =
    let from = carried_of c.args.carried c.args.entries.now.current in
    subst AreTradeBounds (sym (c.sending-trade.ensures c.args.entries.now.current))
    (sending_bounds c.args.ctx.now c.args.sheep.now c.args.wheat.now from)

pub carried_on-requires : goal.carried_on-requires
carried_on-requires g c =
    sending_fits c.args.ctx.now c.args.sheep.now c.args.wheat.now c.args.carried c.sending-trade.result
    c.args.entries.now c.hopped.new.entries (sym c.is_same.ensures.tied ∙ c.if-is_same.false)
    c.sending-trade.ensures c.in_ok-done.field-0 c.in-Ok.done c.in-Ok.is c.requires.crossable
    c.in_ok-done.ensures.hopped

pub returns-in_ok-carried_on-in-Ok : goal.returns-in_ok-carried_on-in-Ok
returns-in_ok-carried_on-in-Ok g c =
    sent_on c.args.ctx.now c.args.sheep.now c.args.wheat.now c.args.carried c.sending-trade.result
    c.args.entries.now c.hopped.new.entries (sym c.is_same.ensures.tied ∙ c.if-is_same.false)
    c.sending-trade.ensures c.in_ok-done.field-0 c.in-Ok.done c.in-Ok.is c.in_ok-done.ensures.hopped
    c.in_ok-done.ensures.crossable c.in_ok-carried_on-in-Ok.field-0 c.in_ok-carried_on-in-Ok.ensures

pub returns-in-Err : goal.returns-in-Err
returns-in-Err g c =
    not_sent c.args.ctx.now c.args.sheep.now c.args.wheat.now c.args.carried c.sending-trade.result
    c.args.entries.now c.hopped.new.entries (sym c.is_same.ensures.tied ∙ c.if-is_same.false)
    c.sending-trade.ensures c.in_ok-done.field-0 c.in-Err.fault c.in-Err.is c.in_ok-done.ensures.hopped
