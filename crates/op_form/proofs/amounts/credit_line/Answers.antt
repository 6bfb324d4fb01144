use Rattle.op_form.proofs.Prelude.{◌∙◌, ap, arith, ints, to_z-of_z, line_of_slot}
use Rattle.std.proofs.lemmas.Grind.{common_steps}
use Rattle.op_form.proofs.amounts.credit_line.Goals as goal

pub credit_fault-requires : goal.credit_fault-requires
credit_fault-requires g c =
    c.requires.in_range.lines c.args.id.now c.args.held.now c.in-Some.slot.line
    (c.in_ok-slot.ensures.line ∙ ap line_of_slot c.in-Some.is)

pub store_more-requires-clause-in_range : goal.store_more-requires-clause-in_range
store_more-requires-clause-in_range g c =
    c.requires.in_range.lines c.args.id.now c.args.held.now c.in-Some.slot.line
    (c.in_ok-slot.ensures.line ∙ ap line_of_slot c.in-Some.is)

pub store_more-requires-clause-room : goal.store_more-requires-clause-room
store_more-requires-clause-room g c = grind (arith, ints, to_z-of_z, common_steps)
