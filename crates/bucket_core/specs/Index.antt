-- The offsets of the items of a file.
use Rattle.std.specs.Prelude.{◌≡◌, ◌≤◌, ◌<◌, true, ℕ, List, [], ◌∷◌, drop, length, Option, Some, None, option_map}
use Rattle.std.specs.Prelude.{if◌then◌else◌, suc}
use Rattle.std.specs.Ordering.{eq_by_cmp}
use Rattle.std.specs.FinMap.Entries.{find}
use Rattle.ledger_types.specs.declared.key.LedgerKey.{LedgerKey}
use Rattle.ledger_types.specs.declared.bucket.BucketEntry.{BucketEntry}
use Rattle.ledger_types.specs.KeyOrder.{key_cmp}
use Rattle.xdr_core.specs.Position.{start_of}
use Rattle.xdr_entries.specs.Keys.{ledger_key}
use Rattle.bucket_core.specs.Filter.{may_contain, fingerprint}
use Rattle.ledger_types.specs.declared.ids.Hash.{Hash}
use Rattle.shared_tree.specs.Rows as tree
use Rattle.bucket_items.specs.declared.item.BucketEntryType.{BucketEntryType}
use Rattle.bucket_items.specs.declared.item.BucketEntryType.TheVariants as mark
use Rattle.bucket_core.specs.Bucket.{Contents}
use Rattle.bucket_core.specs.File.{items_of}
use Rattle.bucket_core.specs.Reading.{items_ahead, IsFileWithHash}
use Rattle.bucket_core.specs.Stored.{IsStored, stored_in, rows_of}

-- a row of items under their keys
abbrev pub Row : Type 0
Row = List (LedgerKey × BucketEntry)

abbrev pub IsRising : Row → Type 0
IsRising row = tree.IsRising key_cmp row

abbrev pub value_at : LedgerKey → Row → Option BucketEntry
value_at k row = find key_cmp k row

-- the first item above a key
abbrev pub above : LedgerKey → Row → Option (LedgerKey × BucketEntry)
above k row = tree.first_above key_cmp k row

-- how many items come before the one under a key, if one is there
abbrev pub index_of : LedgerKey → Row → Option ℕ
index_of k [] = None
index_of k (x ∷ xs) = if eq_by_cmp key_cmp k x.0 then Some 0 else option_map suc (index_of k xs)

-- the record of an item with a key is at an offset of a file
pub record IsItemAt (file : List ℕ) (offset : ℕ) : Type 0 where
  pub within : offset ≤ length file
  pub stored : IsStored (drop offset file)

abbrev pub AreItemsAt : List ℕ → List ℕ → Type 0
AreItemsAt file [] = Unit {0}
AreItemsAt file (offset ∷ offsets) = IsItemAt file offset × AreItemsAt file offsets

-- the items at offsets of a file, under their keys
abbrev pub row_at : List ℕ → List ℕ → Row
row_at file [] = []
row_at file (offset ∷ offsets) = stored_in (drop offset file) ∷ row_at file offsets

-- these are the offsets of all items of a file but META
pub record AreOffsets (file offsets : List ℕ) : Type 0 where
  pub exist : AreItemsAt file offsets
  pub row : row_at file offsets ≡ rows_of (items_ahead (start_of file))

-- the filter lets the keys of a row pass
abbrev pub MayContainAll : (words : List ℕ) → Row → Type 0
MayContainAll words [] = Unit {0}
MayContainAll words (x ∷ xs) =
    (may_contain words (fingerprint (ledger_key.encoding x.0)) ≡ true) × MayContainAll words xs

-- a filter of the keys of a row
pub record IsFilter (words : List ℕ) (row : Row) : Type 0 where
  pub some : 0 < length words
  pub all : MayContainAll words row

-- the offset of an item that isn't META
abbrev pub offsets_by : BucketEntryType → ℕ → List ℕ
offsets_by mark.Meta at = []
offsets_by other at = at ∷ []

-- what a bucket keeps: a file, its hash where it has one, where its items exist, and which keys it may have
pub record IsKept (bytes : List ℕ) (hash : Option Hash) (offsets words : List ℕ) : Type 0 where
  pub stated : IsFileWithHash bytes hash
  pub index : AreOffsets bytes offsets
  pub filter : IsFilter words (row_at bytes offsets)

-- the items of a bucket under their keys, in the order of the keys
abbrev pub rows : Contents → Row
rows contents = rows_of (items_of contents)
