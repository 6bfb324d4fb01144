use Rattle.trade_cross.proofs.Prelude.{sym, ap, subst, ◌∙◌, get, Undo, map_after_removing, IsCrossable}
use Rattle.trade_cross.proofs.Cancelled.{found_key, found_offer, release_fits, still_crossable}
use Rattle.trade_cross.proofs.CancelledLeft.{released_beside}
use Rattle.trade_cross.proofs.StepPlanned.{priced, amount_low}
use Rattle.trade_cross.proofs.cancel.cancel_found.Goals as goal

pub release-requires-clause-priced : goal.release-requires-clause-priced
release-requires-clause-priced g c =
    let k = c.requires.crossable in
    priced k.view k.id_pool 0 k.owed k.right c.args.offer.now k.sum c.args.entries.now.current k.legal
    (found_offer _ c.args.entry.now c.args.offer.now c.requires.found c.requires.offer)

pub release-requires-clause-amount : goal.release-requires-clause-amount
release-requires-clause-amount g c =
    let k = c.requires.crossable in
    amount_low k.view k.id_pool 0 k.owed k.right c.args.offer.now k.sum c.args.entries.now.current k.legal
    (found_offer _ c.args.entry.now c.args.offer.now c.requires.found c.requires.offer)

pub release-requires-clause-fits : goal.release-requires-clause-fits
release-requires-clause-fits g c =
    let k = c.requires.crossable in
    release_fits k.view k.id_pool 0 k.owed k.right c.args.offer.now k.sum c.args.entries.now.current k.legal
    (found_offer _ c.args.entry.now c.args.offer.now c.requires.found c.requires.offer)

pub remove_found-requires-clause-found : goal.remove_found-requires-clause-found
remove_found-requires-clause-found g c =
    let k = c.requires.crossable in
    let m = c.args.entries.now.current in
    let o = c.args.offer.now in
    let released = ap (λ (u : Undo). u.current) c.in_ok-release.ensures in
    (λ i. get (released i) (c.offer_key.ensures i))
    ∙ released_beside k.view k.id_pool k.owed k.sum o m k.legal k.right
    (found_offer m c.args.entry.now o c.requires.found c.requires.offer) o
    ∙ ap (get m) (sym (found_key c.args.entry.now o c.requires.offer)) ∙ c.requires.found

pub returns-clause-crossable : goal.returns-clause-crossable
returns-clause-crossable g c =
    let released = ap (λ (u : Undo). u.current) c.in_ok-release.ensures in
    let removed = ap (λ (u : Undo). u.current) c.in_ok-remove_found.ensures.removed in
    subst IsCrossable (sym (removed ∙ (λ i. map_after_removing (c.offer_key.ensures i) (released i))))
    (still_crossable c.args.offer.now c.args.entries.now.current c.requires.crossable
    (found_offer _ c.args.entry.now c.args.offer.now c.requires.found c.requires.offer))
