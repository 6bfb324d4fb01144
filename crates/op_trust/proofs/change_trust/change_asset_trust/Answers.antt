use Rattle.op_trust.proofs.Prelude.{◌∙◌, ap, line_of_slot}
use Rattle.op_trust.proofs.change_trust.change_asset_trust.Goals as goal

pub change_line-requires-clause-in_range : goal.change_line-requires-clause-in_range
change_line-requires-clause-in_range g c =
    c.requires.in_range.lines c.args.ctx.now.op_source c.line_asset_of.result c.in-Some.slot.line
    (c.in_ok-slot.ensures.line ∙ ap line_of_slot c.in-Some.is)
