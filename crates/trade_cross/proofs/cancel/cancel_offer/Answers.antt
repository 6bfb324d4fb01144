use Rattle.trade_cross.proofs.Prelude.{sym, ap, subst, ◌∙◌, Undo, map_after_removing, IsCrossable}
use Rattle.trade_cross.proofs.Cancelled.{release_fits, still_crossable}
use Rattle.trade_cross.proofs.StepPlanned.{priced, amount_low}
use Rattle.trade_cross.proofs.cancel.cancel_offer.Goals as goal

pub release-requires-clause-priced : goal.release-requires-clause-priced
release-requires-clause-priced g c =
    let k = c.requires.crossable in
    priced k.view k.id_pool 0 k.owed k.right c.args.offer.now k.sum c.args.entries.now.current k.legal
    c.requires.exists

pub release-requires-clause-amount : goal.release-requires-clause-amount
release-requires-clause-amount g c =
    let k = c.requires.crossable in
    amount_low k.view k.id_pool 0 k.owed k.right c.args.offer.now k.sum c.args.entries.now.current k.legal
    c.requires.exists

pub release-requires-clause-fits : goal.release-requires-clause-fits
release-requires-clause-fits g c =
    let k = c.requires.crossable in
    release_fits k.view k.id_pool 0 k.owed k.right c.args.offer.now k.sum c.args.entries.now.current k.legal
    c.requires.exists

pub returns-clause-crossable : goal.returns-clause-crossable
returns-clause-crossable g c =
    let released = ap (λ (u : Undo). u.current) c.in_ok-release.ensures in
    let removed = ap (λ (u : Undo). u.current) c.in_ok-remove_entry.ensures.removed in
    subst IsCrossable (sym (removed ∙ (λ i. map_after_removing (c.offer_key.ensures i) (released i))))
    (still_crossable c.args.offer.now c.args.entries.now.current c.requires.crossable c.requires.exists)
