use Rattle.op_flags.specs.op_types.declared.operation.OperationBody.{OperationBody}
use Rattle.op_flags.specs.op_types.declared.operation.OperationBody.TheVariants as body
use Rattle.op_flags.specs.entry_map.EntryMap.{EntryMap}
use Rattle.op_flags.specs.sponsor_rules.declared.context.Ctx.{Ctx}
use Rattle.op_flags.specs.legal_rules.Owing.{AreEntriesLegal}
use Rattle.op_payment.specs.Operations.{AreEntriesFit}
use Rattle.op_laws.proofs.premises.operations_can_apply.Goals as goal

fit : (ctx : Ctx) (of : OperationBody) (m : EntryMap) → AreEntriesLegal ctx.id_pool m → AreEntriesFit ctx of m
fit ctx (body.PathPaymentStrictReceive op) m legal = legal
fit ctx (body.PathPaymentStrictSend op) m legal = legal
fit ctx other m legal = tt

pub returns : goal.returns
returns c = λ ctx of m underway source ids. record {
  seq = underway.seq;
  source = source;
  ready = c.settled_ready.ensures ctx.id_pool m underway.settled;
  in_range = c.settled_in_range.ensures ctx.id_pool m underway.settled;
  legal = underway.settled.legal;
  sound = c.settled_sound.ensures ctx.id_pool m underway.settled;
  amounts = c.settled_amounts.ensures ctx.id_pool m underway.settled;
  manageable = c.underway_manageable.ensures ctx m underway source ids;
  fit = fit ctx of m underway.settled.legal;
}
