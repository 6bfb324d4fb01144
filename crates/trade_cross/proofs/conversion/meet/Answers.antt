use Rattle.trade_cross.proofs.Prelude.{sym, ap, subst, ◌∙◌, Undo, IsCrossable, IsWithin}
use Rattle.trade_cross.proofs.Progressed.{exists, fits, then_within, still_crossable, converted_then, going_on_then}
use Rattle.trade_cross.proofs.conversion.meet.Goals as goal

pub cross_offer-requires-clause-exists : goal.cross_offer-requires-clause-exists
cross_offer-requires-clause-exists g c =
    exists c.args.ctx.now.base_reserve c.args.trade.now c.args.progress.now c.args.entries.now.current
    c.requires.crossable
    c.requires.within c.requires.some c.args.offer.now c.requires.meets

pub note-requires-clause-fits : goal.note-requires-clause-fits
note-requires-clause-fits g c =
    fits c.args.ctx.now.base_reserve c.args.trade.now c.args.progress.now c.args.entries.now.current
    c.requires.crossable
    c.requires.within c.requires.some c.args.offer.now c.requires.meets
    c.in_ok-plan.plan c.in_ok-plan.ensures.moved

pub returns-then-plan-clause-advanced : goal.returns-then-plan-clause-advanced
returns-then-plan-clause-advanced g c =
    converted_then c.args.ctx.now.base_reserve c.args.trade.now c.args.progress.now c.args.entries.now.current
    c.requires.crossable
    c.requires.within c.requires.some c.args.offer.now c.requires.meets
    c.in_ok-plan.plan c.in_ok-plan.ensures.moved c.note.new.progress c.cross_offer.new.entries.current
    c.in_ok-note.ensures (ap (λ (u : Undo). u.current) c.in_ok-plan.ensures.entries)
    (sym c.in_ok-plan.ensures.moved.stays ∙ c.if-plan.true)

pub returns-then-plan-clause-crossable : goal.returns-then-plan-clause-crossable
returns-then-plan-clause-crossable g c =
    subst IsCrossable (sym (ap (λ (u : Undo). u.current) c.in_ok-plan.ensures.entries))
    (still_crossable c.args.ctx.now.base_reserve c.args.trade.now c.args.progress.now c.args.entries.now.current
    c.requires.crossable
    c.requires.within c.requires.some c.args.offer.now c.requires.meets)

pub returns-then-plan-clause-within : goal.returns-then-plan-clause-within
returns-then-plan-clause-within g c =
    subst (IsWithin c.args.trade.now) (sym c.in_ok-note.ensures)
    (then_within c.args.ctx.now.base_reserve c.args.trade.now c.args.progress.now c.args.entries.now.current
    c.requires.crossable
    c.requires.within c.requires.some c.args.offer.now c.requires.meets
    c.in_ok-plan.plan c.in_ok-plan.ensures.moved)

pub returns-clause-advanced : goal.returns-clause-advanced
returns-clause-advanced g c =
    going_on_then c.args.ctx.now.base_reserve c.args.trade.now c.args.progress.now c.args.entries.now.current
    c.requires.crossable
    c.requires.within c.requires.some c.args.offer.now c.requires.meets
    c.in_ok-plan.plan c.in_ok-plan.ensures.moved c.note.new.progress c.cross_offer.new.entries.current
    c.in_ok-note.ensures (ap (λ (u : Undo). u.current) c.in_ok-plan.ensures.entries)
    (sym c.in_ok-plan.ensures.moved.stays ∙ c.if-plan.false)

pub returns-clause-crossable : goal.returns-clause-crossable
returns-clause-crossable g c =
    subst IsCrossable (sym (ap (λ (u : Undo). u.current) c.in_ok-plan.ensures.entries))
    (still_crossable c.args.ctx.now.base_reserve c.args.trade.now c.args.progress.now c.args.entries.now.current
    c.requires.crossable
    c.requires.within c.requires.some c.args.offer.now c.requires.meets)

pub returns-clause-within : goal.returns-clause-within
returns-clause-within g c =
    subst (IsWithin c.args.trade.now) (sym c.in_ok-note.ensures)
    (then_within c.args.ctx.now.base_reserve c.args.trade.now c.args.progress.now c.args.entries.now.current
    c.requires.crossable
    c.requires.within c.requires.some c.args.offer.now c.requires.meets
    c.in_ok-plan.plan c.in_ok-plan.ensures.moved)
