use Rattle.std.specs.Int.{w64}
use Rattle.std.specs.Prelude.{FitsSigned}
use Rattle.std.proofs.lemmas.Int.{to_z-of_z}
use Rattle.op_payment.specs.PathCalls.{set_out_of}
use Rattle.path_finder.proofs.CostsPaid.{served, not_served}
use Rattle.path_finder.proofs.Prelude.{ap, ◌∙◌, Some, rules, cost_of}
use Rattle.path_finder.proofs.cost.cost_of.Goals as goal

pub returns-in-Ok-clause-cost : goal.returns-in-Ok-clause-cost
returns-in-Ok-clause-cost g c =
    let query = c.args.query.now in
    let amount_fits : FitsSigned w64 query.amount = search rules in
    let needed_fits : FitsSigned w64 c.in-Ok.needed.amount = search rules in
    ap Some (to_z-of_z w64 c.in-Ok.needed.amount needed_fits)
    ∙ served c.args.ctx.now query c.args.path.now c.child.new.self c.receive.new.entries c.requires.source
    c.set_out-amount.result (c.set_out-amount.ensures ∙ ap set_out_of (to_z-of_z w64 query.amount amount_fits))
    c.in_ok-outcome.outcome c.in-Ok.needed c.in-Ok.is c.in_ok-outcome.ensures
    ∙ ap (λ u. cost_of c.args.ctx.now query u.current c.args.path.now) c.in_ok-child.ensures

pub returns-in-Err-clause-cost : goal.returns-in-Err-clause-cost
returns-in-Err-clause-cost g c =
    let query = c.args.query.now in
    let amount_fits : FitsSigned w64 query.amount = search rules in
    not_served c.args.ctx.now query c.args.path.now c.child.new.self c.receive.new.entries c.requires.source
    c.set_out-amount.result (c.set_out-amount.ensures ∙ ap set_out_of (to_z-of_z w64 query.amount amount_fits))
    c.in_ok-outcome.outcome c.in-Err.field-0 c.in-Err.is c.in_ok-outcome.ensures
    ∙ ap (λ u. cost_of c.args.ctx.now query u.current c.args.path.now) c.in_ok-child.ensures
