use Rattle.op_claim.proofs.Prelude.{◌∙◌, ap}
use Rattle.entry_slots.specs.Lines.{line_of_slot}
use Rattle.op_claim.proofs.clawback.clawback.Goals as goal

pub refusal-requires : goal.refusal-requires
refusal-requires g c =
    c.requires.lines c.account_id-from.result c.line_asset_of-held.result c.in-Some.slot.line
    (c.in_ok-slot.ensures.line ∙ ap line_of_slot c.in-Some.is)

pub store_less-requires-clause-in_range : goal.store_less-requires-clause-in_range
store_less-requires-clause-in_range g c =
    c.requires.lines c.account_id-from.result c.line_asset_of-held.result c.in-Some.slot.line
    (c.in_ok-slot.ensures.line ∙ ap line_of_slot c.in-Some.is)
