use Rattle.entry_map.proofs.Prelude.{None, refl, sym, ap, ◌∙◌, get, remove, without}
use Rattle.entry_map.proofs.Aggregates.{erase_made}
use Rattle.entry_map.proofs.PositionMaps.{rising_derived, rising_after, take_after}
use Rattle.entry_map.proofs.index.OfferIndex.without_offer.Goals as goal

pub take-requires : goal.take-requires
take-requires c = rising_derived c.self.inside.tree c.self.invariant

pub invariant_of-result : goal.invariant_of-result
invariant_of-result c = rising_after c.self.inside.tree c.in_ok-take.field-0 c.position_of.result None c.self.invariant
    c.in_ok-take.ensures

pub returns-clause-value : goal.returns-clause-value
returns-clause-value c = take_after c.self.inside.tree c.in_ok-take.field-0 c.args.self.now c.position_of.result
    c.self.invariant c.self.view_is c.in_ok-take.ensures ∙ ap (remove c.args.self.now) c.position_of.ensures.value

pub returns-clause-map : goal.returns-clause-map
returns-clause-map c m k is there =
    erase_made m c.args.self.now _ k (get m k) is refl (take_after c.self.inside.tree c.in_ok-take.field-0
    c.args.self.now c.position_of.result c.self.invariant c.self.view_is c.in_ok-take.ensures
    ∙ ap (remove c.args.self.now) c.position_of.ensures.value ∙ sym (ap (λ o. without o c.args.self.now) there))
