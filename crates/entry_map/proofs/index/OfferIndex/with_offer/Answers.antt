use Rattle.entry_map.proofs.Prelude.{Some, ◌∙◌, insert}
use Rattle.entry_map.proofs.PositionMaps.{rising_derived, rising_after, put_after}
use Rattle.entry_map.proofs.index.OfferIndex.with_offer.Goals as goal

pub put-requires : goal.put-requires
put-requires c = rising_derived c.self.inside.tree c.self.invariant

pub invariant_of-result : goal.invariant_of-result
invariant_of-result c = rising_after c.self.inside.tree c.in_ok-put.field-0 c.in_ok-kept.kept.0
    (Some c.in_ok-kept.kept.1) c.self.invariant c.in_ok-put.ensures

pub returns-clause-value : goal.returns-clause-value
returns-clause-value c = put_after c.self.inside.tree c.in_ok-put.field-0 c.args.self.now c.in_ok-kept.kept
    c.position_of.result c.terms_of.result c.self.invariant c.self.view_is c.in_ok-kept.ensures c.in_ok-put.ensures
    ∙ (λ i. insert c.args.self.now (c.position_of.ensures.value i) (c.terms_of.ensures i))
