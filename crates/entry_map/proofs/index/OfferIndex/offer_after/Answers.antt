use Rattle.entry_map.proofs.Prelude.{sym, ap, subst, ◌∙◌, Some, get, offers_of, offer_with, IsNextOfPair, IsLastOfPair}
use Rattle.entry_map.proofs.PositionMaps.{get-index_of}
use Rattle.entry_map.proofs.Aggregates.{terms_exist, narrow_offers}
use Rattle.entry_map.proofs.Ranking.{ranked_position}
use Rattle.entry_map.proofs.Ranked.{none_next, some_next}
use Rattle.entry_map.proofs.index.OfferIndex.offer_after.Goals as goal

pub returns-in_err-next-clause-list : goal.returns-in_err-next-clause-list
returns-in_err-next-clause-list c offers is sound narrow priced =
    c.from_residual.ensures
    ∙ none_next c.args.self.now offers (λ p. ap (λ s. get s p) is ∙ get-index_of offers p) sound narrow
    c.args.selling.now c.args.buying.now c.args.position
    (ranked_position c.args.position priced c.start_of.ensures.narrow)
    (subst (IsLastOfPair c.args.self.now) c.start_of.ensures.value c.in_err-next.ensures)

pub returns-in_err-next-clause-map : goal.returns-in_err-next-clause-map
returns-in_err-next-clause-map c m is sound priced =
    c.from_residual.ensures
    ∙ none_next c.args.self.now (offers_of m) (λ p. is.each p ∙ sym (terms_exist m p is.keyed)) sound
    (narrow_offers m c.args.self.now is) c.args.selling.now
    c.args.buying.now c.args.position (ranked_position c.args.position priced c.start_of.ensures.narrow)
    (subst (IsLastOfPair c.args.self.now) c.start_of.ensures.value c.in_err-next.ensures)

pub returns-clause-list : goal.returns-clause-list
returns-clause-list c offers is sound narrow priced =
    ap Some (c.offer_at.ensures ∙ (λ i. offer_with (c.key.ensures i) (c.value.ensures i)))
    ∙ some_next c.args.self.now offers (λ p. ap (λ s. get s p) is ∙ get-index_of offers p) sound narrow
    c.args.selling.now c.args.buying.now c.args.position
    (ranked_position c.args.position priced c.start_of.ensures.narrow)
    c.in_ok-next.next.now.0 c.in_ok-next.next.now.1
    (subst (λ start. IsNextOfPair c.args.self.now start c.in_ok-next.next.now.0 c.in_ok-next.next.now.1)
    c.start_of.ensures.value c.in_ok-next.ensures)

pub returns-clause-map : goal.returns-clause-map
returns-clause-map c m is sound priced =
    ap Some (c.offer_at.ensures ∙ (λ i. offer_with (c.key.ensures i) (c.value.ensures i)))
    ∙ some_next c.args.self.now (offers_of m) (λ p. is.each p ∙ sym (terms_exist m p is.keyed)) sound
    (narrow_offers m c.args.self.now is) c.args.selling.now c.args.buying.now c.args.position
    (ranked_position c.args.position priced c.start_of.ensures.narrow) c.in_ok-next.next.now.0 c.in_ok-next.next.now.1
    (subst (λ start. IsNextOfPair c.args.self.now start c.in_ok-next.next.now.0 c.in_ok-next.next.now.1)
    c.start_of.ensures.value c.in_ok-next.ensures)
