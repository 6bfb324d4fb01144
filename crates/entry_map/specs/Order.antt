-- The order of positions, which is derived: by pair, rank, id, end and seller.
use Rattle.std.specs.declared.cmp.Ordering.{Ordering}
use Rattle.entry_map.specs.declared.position.BookPosition.{BookPosition}
use Rattle.entry_map.specs.contracts.position.BookPositionOrd.TheImpl as positions

unfoldable pub order : BookPosition → BookPosition → Ordering
order = (positions.cmp-value).it
