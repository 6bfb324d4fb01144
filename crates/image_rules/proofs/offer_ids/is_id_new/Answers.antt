use Rattle.image_rules.proofs.Prelude.{subst, sym, rules, to_z-of_z, FitsSigned, w64, Brings}
use Rattle.image_rules.proofs.Distinct.{brought_as}
use Rattle.image_rules.proofs.offer_ids.is_id_new.Goals as goal

pub returns-in_ok-insert-in-Offer : goal.returns-in_ok-insert-in-Offer
returns-in_ok-insert-in-Offer c =
    let offer = c.in-Offer.offer in
    let fits : FitsSigned w64 offer.offer_id = search rules in
    subst (λ b. Brings c.args.ids.now c.insert.new.self b c.in_ok-insert-in-Offer.field-0) (sym c.in-Offer.is)
    (brought_as c.args.ids.now c.insert.new.self offer _ c.in_ok-insert-in-Offer.field-0
    (to_z-of_z w64 offer.offer_id fits) c.in_ok-insert-in-Offer.ensures.added c.in_ok-insert-in-Offer.ensures.updates)
