-- What is kept beside the files of a ledger's levels.
use Rattle.std.specs.Prelude.{◌≡◌, ℕ, length}
use Rattle.std.specs.FinMap.{entries}
use Rattle.entry_map.specs.EntryMap.{EntryMap}
use Rattle.entry_map.specs.Indexes.{PositionMap, IsIndexOf}

-- the index of a map's offers, and the number of its entries
pub record AreCounted (m : EntryMap) (offers : PositionMap) (len : ℕ) : Type 0 where
  pub index : IsIndexOf m offers
  pub count : len ≡ length (entries m)
