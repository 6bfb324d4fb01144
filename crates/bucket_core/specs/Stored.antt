-- Items where they exist in their files.
use Rattle.std.specs.Prelude.{◌≡◌, ℕ, List, [], ◌∷◌, Option, Some, None, Ok, Err, unwrap_or}
use Rattle.xdr_core.specs.declared.fault.XdrFault.{XdrFault}
use Rattle.xdr_core.specs.Position.{Position, Reading, start_of}
use Rattle.ledger_types.specs.declared.bucket.BucketEntry.{BucketEntry}
use Rattle.ledger_types.specs.declared.bucket.BucketEntry.TheVariants as bucket
use Rattle.ledger_types.specs.declared.key.LedgerKey.{LedgerKey}
use Rattle.ledger_types.specs.declared.key.LedgerKey.TheVariants as key
use Rattle.bucket_items.specs.MarkedItem.{item_at}
use Rattle.bucket_core.specs.Faults.{key_in}

-- what was read, or a META that says nothing
abbrev pub item_or_meta : Reading XdrFault BucketEntry → BucketEntry
item_or_meta (Ok x) = x.0
item_or_meta (Err f) = bucket.Meta 0

-- an item under its key, or under one that says nothing
abbrev pub under_key : BucketEntry → LedgerKey × BucketEntry
under_key item = (unwrap_or (key_in item) (key.LiquidityPool (record { 0 = [] })), item)

-- the item whose record is the prefix of a text, under its key; it is stated of any text, and of one with no record at
-- its prefix it is of no use
unfoldable pub stored_in : List ℕ → LedgerKey × BucketEntry
stored_in text = under_key (item_or_meta (item_at (start_of text)))

-- the record of an item with a key exists at the prefix of a text
pub record IsStored (text : List ℕ) : Type 0 where
  pub item : BucketEntry
  pub after : Position
  pub reads : item_at (start_of text) ≡ Ok (item, after)
  pub key : LedgerKey
  pub keyed : key_in item ≡ Some key

abbrev pub under_if : Option LedgerKey → BucketEntry → List (LedgerKey × BucketEntry) → List (LedgerKey × BucketEntry)
under_if None item others = others
under_if (Some k) item others = (k, item) ∷ others

-- the items under their keys, without META
abbrev pub rows_of : List BucketEntry → List (LedgerKey × BucketEntry)
rows_of [] = []
rows_of (item ∷ items) = under_if (key_in item) item (rows_of items)
