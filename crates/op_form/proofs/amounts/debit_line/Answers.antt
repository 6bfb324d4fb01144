use Rattle.op_form.proofs.Prelude.{◌∙◌, ap, line_of_slot}
use Rattle.op_form.proofs.amounts.debit_line.Goals as goal

pub debit_fault-requires : goal.debit_fault-requires
debit_fault-requires g c =
    c.requires.in_range.lines c.args.id.now c.args.held.now c.in-Some.slot.line
    (c.in_ok-slot.ensures.line ∙ ap line_of_slot c.in-Some.is)

pub store_less-requires-clause-in_range : goal.store_less-requires-clause-in_range
store_less-requires-clause-in_range g c =
    c.requires.in_range.lines c.args.id.now c.args.held.now c.in-Some.slot.line
    (c.in_ok-slot.ensures.line ∙ ap line_of_slot c.in-Some.is)
