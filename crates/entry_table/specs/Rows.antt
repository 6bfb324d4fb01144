-- Rows of values under keys, in the order of the keys.
use Rattle.std.specs.Prelude.{◌≡◌, ◌+◌, ◌<◌, ◌++◌, Bool, T, Option, Some, List, [], ◌∷◌, map}
use Rattle.std.specs.Prelude.{length}
use Rattle.std.specs.List.{list_any}
use Rattle.std.specs.Option.{option_or}
use Rattle.std.specs.Ordering.{eq_by_cmp}
use Rattle.std.specs.FinMap.{from_sorted}
use Rattle.std.specs.FinMap.Entries.{find, is_sorted}
use Rattle.ledger_types.specs.declared.key.LedgerKey.{LedgerKey}
use Rattle.ledger_types.specs.declared.entry.LedgerEntry.{LedgerEntry}
use Rattle.ledger_types.specs.KeyOrder.{key_cmp}
use Rattle.ledger_types.specs.Keys.{key_of}
use Rattle.entry_map.specs.EntryMap.{EntryMap}
use Rattle.entry_map.specs.Indexes.{PositionMap, IsIndexOf}
use Rattle.shared_tree.specs.Rows.{all_changed}

-- each key is above those before it
abbrev pub IsRising : {V : Type 0} → List (LedgerKey × V) → Type 0
IsRising row = T (is_sorted key_cmp row)

-- what is under a key
abbrev pub value_at : {V : Type 0} → LedgerKey → List (LedgerKey × V) → Option V
value_at k row = find key_cmp k row

-- a row with another put over it: a key of both has what the newer one has
pub record IsOverlaid {V : Type 0} (older newer all : List (LedgerKey × V)) : Type 0 where
  pub rises : IsRising all
  pub each : (k : LedgerKey) → value_at k all ≡ option_or (value_at k newer) (value_at k older)

abbrev pub is_among : LedgerKey → List LedgerKey → Bool
is_among k keys = list_any (eq_by_cmp key_cmp k) keys

-- ---- entries

abbrev pub with_key : LedgerEntry → LedgerKey × LedgerEntry
with_key e = (key_of e, e)

-- each entry is under its own key
abbrev pub AreOwn : List (LedgerKey × LedgerEntry) → Type 0
AreOwn [] = Unit {0}
AreOwn (x ∷ xs) = (key_of x.1 ≡ x.0) × AreOwn xs

-- the row of a table
pub record IsTableRow (row : List (LedgerKey × LedgerEntry)) : Type 0 where
  pub rises : IsRising row
  pub own : AreOwn row

abbrev pub map_of : List (LedgerKey × LedgerEntry) → EntryMap
map_of row = from_sorted row

-- the row of a table, and the index of its offers
pub record IsTable (row : List (LedgerKey × LedgerEntry)) (offers : PositionMap) : Type 0 where
  pub rows : IsTableRow row
  pub index : IsIndexOf (map_of row) offers

-- ---- changing a row

-- changes that put each value of a row
abbrev pub putting : {V : Type 0} → List (LedgerKey × V) → List (LedgerKey × Option V)
putting row = map (λ y. (y.0, Some y.1)) row

-- One step of a pass over two rows: what was written goes on as before, less is ahead, and that rises as before.
pub record IsPassed {V : Type 0} (older newer older_left newer_left before after : List (LedgerKey × V)) : Type 0 where
  pub same : after ++ all_changed key_cmp (putting newer_left) older_left
      ≡ before ++ all_changed key_cmp (putting newer) older
  pub less : length older_left + length newer_left < length older + length newer
  pub older_rises : IsRising older_left
  pub newer_rises : IsRising newer_left
