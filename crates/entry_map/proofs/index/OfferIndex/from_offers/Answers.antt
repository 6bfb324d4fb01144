use Rattle.entry_map.proofs.Prelude.{◌∙◌}
use Rattle.entry_map.proofs.PositionMaps.{rising_built, index_built}
use Rattle.entry_map.proofs.index.OfferIndex.from_offers.Goals as goal

pub invariant_of-result : goal.invariant_of-result
invariant_of-result c =
    rising_built c.in_ok-positioned.field-0.items c.in_ok-of_row.field-0 c.in_ok-tree.tree c.in_ok-tree.ensures
    (c.in_ok-of_row.ensures ∙ c.as_slice.ensures.value ∙ c.in_ok-row.ensures)

pub returns : goal.returns
returns c =
    index_built c.args.offers.now c.in_ok-positioned.field-0.items c.in_ok-of_row.field-0 c.in_ok-tree.tree
    c.in_ok-positioned.ensures c.in_ok-tree.ensures
    (c.in_ok-of_row.ensures ∙ c.as_slice.ensures.value ∙ c.in_ok-row.ensures)
