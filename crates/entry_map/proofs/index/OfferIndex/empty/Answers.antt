use Rattle.entry_map.proofs.Prelude.{ap, ◌∙◌, from_sorted}
use Rattle.entry_map.proofs.Positions.{order}
use Rattle.entry_map.proofs.PositionMaps.{row_empty}
use Rattle.entry_map.proofs.index.OfferIndex.empty.Goals as goal

pub returns : goal.returns
returns c = ap (λ row. from_sorted {R = order} row) c.empty.ensures ∙ row_empty
