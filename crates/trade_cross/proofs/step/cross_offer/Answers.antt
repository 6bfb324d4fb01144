use Rattle.trade_cross.proofs.Prelude.{rules, arith, ap, ◌∙◌, ints, with_current}
use Rattle.trade_cross.proofs.StepPlanned.{priced, amount_low, sides_ready, gives_fit, takes_fit, is_moved, entries_are}
use Rattle.trade_cross.proofs.step.cross_offer.Goals as goal

pub liabilities-bound-requires-clause-priced : goal.liabilities-bound-requires-clause-priced
liabilities-bound-requires-clause-priced g c =
    let k = c.requires.crossable in
    priced k.view k.id_pool c.args.ctx.now.base_reserve k.owed k.right c.args.offer.now k.sum c.args.entries.now.current
    k.legal c.requires.exists

pub liabilities-bound-requires-clause-amount : goal.liabilities-bound-requires-clause-amount
liabilities-bound-requires-clause-amount g c =
    let k = c.requires.crossable in
    let low = amount_low k.view k.id_pool c.args.ctx.now.base_reserve k.owed k.right c.args.offer.now k.sum
    c.args.entries.now.current k.legal c.requires.exists in
    search (rules, arith, ints, low)

pub sides_of-requires-clause-ready : goal.sides_of-requires-clause-ready
sides_of-requires-clause-ready g c =
    let k = c.requires.crossable in
    sides_ready k.view k.id_pool c.args.ctx.now.base_reserve k.owed k.right c.args.offer.now k.sum
    c.args.entries.now.current k.legal c.requires.exists

pub plan_of-plan-requires-clause-priced : goal.plan_of-plan-requires-clause-priced
plan_of-plan-requires-clause-priced g c =
    let k = c.requires.crossable in
    priced k.view k.id_pool c.args.ctx.now.base_reserve k.owed k.right c.args.offer.now k.sum c.args.entries.now.current
    k.legal c.requires.exists

pub plan_of-plan-requires-clause-amount : goal.plan_of-plan-requires-clause-amount
plan_of-plan-requires-clause-amount g c =
    let k = c.requires.crossable in
    amount_low k.view k.id_pool c.args.ctx.now.base_reserve k.owed k.right c.args.offer.now k.sum
    c.args.entries.now.current k.legal c.requires.exists

pub carry_out-requires-clause-priced : goal.carry_out-requires-clause-priced
carry_out-requires-clause-priced g c =
    let k = c.requires.crossable in
    priced k.view k.id_pool c.args.ctx.now.base_reserve k.owed k.right c.args.offer.now k.sum c.args.entries.now.current
    k.legal c.requires.exists

pub carry_out-requires-clause-gives : goal.carry_out-requires-clause-gives
carry_out-requires-clause-gives g c =
    let k = c.requires.crossable in
    gives_fit k.view k.id_pool c.args.ctx.now.base_reserve k.owed k.right c.args.offer.now k.sum
    c.args.entries.now.current k.legal c.requires.exists c.args.rounding c.args.left c.in_ok-sides.sides
    c.in_ok-sides.ensures c.plan_of-plan.result c.plan_of-plan.ensures

pub carry_out-requires-clause-takes : goal.carry_out-requires-clause-takes
carry_out-requires-clause-takes g c =
    let k = c.requires.crossable in
    takes_fit k.view k.id_pool c.args.ctx.now.base_reserve k.owed k.right c.args.offer.now k.sum
    c.args.entries.now.current k.legal c.requires.exists c.args.rounding c.args.left c.in_ok-sides.sides
    c.in_ok-sides.ensures c.plan_of-plan.result c.plan_of-plan.ensures

pub returns-clause-moved : goal.returns-clause-moved
returns-clause-moved g c =
    let k = c.requires.crossable in
    is_moved k.view k.id_pool c.args.ctx.now.base_reserve k.owed k.right c.args.offer.now k.sum
    c.args.entries.now.current k.legal c.requires.exists c.args.rounding c.args.left c.in_ok-sides.sides
    c.in_ok-sides.ensures c.plan_of-plan.result c.plan_of-plan.ensures

pub returns-clause-entries : goal.returns-clause-entries
returns-clause-entries g c =
    let k = c.requires.crossable in
    c.in_ok-carry_out.ensures
    ∙ ap (with_current c.args.entries.now) (entries_are k.view k.id_pool c.args.ctx.now.base_reserve k.owed k.right
    c.args.offer.now k.sum c.args.entries.now.current k.legal c.requires.exists c.args.rounding c.args.left
    c.in_ok-sides.sides c.in_ok-sides.ensures c.plan_of-plan.result c.plan_of-plan.ensures)
