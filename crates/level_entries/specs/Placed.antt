-- The entries of a map, where they are in files.
use Rattle.std.specs.Prelude.{◌≡◌, ℕ, ◌≤◌, List, [], ◌∷◌, Option, Some, None, map, length, drop}
use Rattle.std.specs.List.{AllByRecursion}
use Rattle.std.specs.FinMap.{from_entries}
use Rattle.ledger_types.specs.declared.bucket.BucketEntry.{BucketEntry}
use Rattle.ledger_types.specs.declared.entry.LedgerEntry.{LedgerEntry}
use Rattle.ledger_types.specs.declared.key.LedgerKey.{LedgerKey}
use Rattle.ledger_types.specs.Keys.{key_of}
use Rattle.entry_map.specs.EntryMap.{EntryMap}
use Rattle.entry_map.specs.Indexes.{PositionMap, IsIndexOf}
use Rattle.entry_table.specs.Rows.{IsTableRow, with_key}
use Rattle.level_entries.specs.Rows.{entry_in, entries_in}

-- an item leaves an entry under its key
pub record Leaves (x : LedgerKey × BucketEntry) : Type 0 where
  pub entry : LedgerEntry
  pub left : entry_in x.1 ≡ Some entry
  pub own : key_of entry ≡ x.0

-- the items of a row that leave an entry
abbrev pub prepended_if : Option LedgerEntry → LedgerKey × BucketEntry → List (LedgerKey × BucketEntry)
    → List (LedgerKey × BucketEntry)
prepended_if None x others = others
prepended_if (Some e) x others = x ∷ others

abbrev pub left_in : List (LedgerKey × BucketEntry) → List (LedgerKey × BucketEntry)
left_in [] = []
left_in (x ∷ xs) = prepended_if (entry_in x.1) x (left_in xs)

-- each item of a row leaves an entry, and these are the entries of a map in the order of their keys
pub record ArePlaced (m : EntryMap) (row : List (LedgerKey × BucketEntry)) : Type 0 where
  pub table : IsTableRow (map with_key (entries_in row))
  pub is : m ≡ from_entries (map with_key (entries_in row))
  pub each : AllByRecursion Leaves row

-- an index of the offers that the items of a row leave from an index on
pub record IsIndexFrom (row : List (LedgerKey × BucketEntry)) (offers : PositionMap) (from : ℕ) : Type 0 where
  pub within : from ≤ length row
  pub index : IsIndexOf (from_entries (map with_key (entries_in (drop from row)))) offers
