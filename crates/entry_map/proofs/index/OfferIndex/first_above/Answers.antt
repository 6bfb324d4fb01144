use Rattle.entry_map.proofs.Prelude.{sym, option_copied}
use Rattle.entry_map.proofs.PositionMaps.{rising_derived, next_position}
use Rattle.entry_map.proofs.index.OfferIndex.first_above.Goals as goal

pub above-requires : goal.above-requires
above-requires c = rising_derived c.self.inside.tree c.self.invariant

pub returns : goal.returns
returns c = next_position c.self.inside.tree c.args.self.now c.args.start.now (option_copied c.above.result)
    c.self.invariant c.self.view_is (sym c.above.ensures)
