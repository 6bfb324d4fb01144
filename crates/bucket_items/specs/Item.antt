-- Items of a bucket's file as they are there (BucketEntry in Stellar-ledger.x; CAP-0020).
use Rattle.std.specs.Prelude.{◌≡◌, ℕ, ℤ, pos, negsuc, List, [], ◌∷◌, Option, Some, None, Result, Ok, Err}
use Rattle.std.specs.Prelude.{if◌then◌else◌}
use Rattle.std.specs.Ordering.{int_eq}
use Rattle.xdr_core.specs.declared.fault.XdrFault.{XdrFault}
use Rattle.xdr_core.specs.declared.fault.XdrKind.TheVariants.{Trailing}
use Rattle.xdr_core.specs.Position.{Position, fault_at, ◌>>=◌}
use Rattle.ledger_types.specs.declared.bucket.BucketEntry.{BucketEntry}
use Rattle.ledger_types.specs.declared.bucket.BucketEntry.TheVariants as bucket
use Rattle.ledger_types.specs.Keys.{key_of}
use Rattle.xdr_entries.specs.Keys.{ledger_key, bucket_entry}
use Rattle.bucket_items.specs.KeyText.{BeginsWithKey}
use Rattle.bucket_items.specs.declared.item.BucketEntryType.{BucketEntryType}
use Rattle.bucket_items.specs.declared.item.BucketEntryType.TheVariants as mark
use Rattle.bucket_items.specs.declared.item.BucketItem.{BucketItem}

-- what an item says of its key
abbrev pub item_type : BucketEntry → BucketEntryType
item_type (bucket.Meta version) = mark.Meta
item_type (bucket.Live entry) = mark.Live
item_type (bucket.Dead gone) = mark.Dead
item_type (bucket.Init entry) = mark.Init

-- the type with this discriminant, where there is one
abbrev pub type_with : ℤ → Option BucketEntryType
type_with d =
    if int_eq d (negsuc 0) then Some mark.Meta
    else if int_eq d (pos 0) then Some mark.Live
    else if int_eq d (pos 1) then Some mark.Dead
    else if int_eq d (pos 2) then Some mark.Init
    else None

-- the encoding of an item's key; META has none
abbrev pub item_key_text : BucketEntry → List ℕ
item_key_text (bucket.Meta version) = []
item_key_text (bucket.Live entry) = ledger_key.encoding (key_of entry)
item_key_text (bucket.Dead gone) = ledger_key.encoding gone
item_key_text (bucket.Init entry) = ledger_key.encoding (key_of entry)

-- the encoding of an item's key is a prefix of these bytes; nothing is said of META
abbrev pub BeginsWithItemKey : List ℕ → BucketEntry → Type 0
BeginsWithItemKey text (bucket.Meta version) = Unit {0}
BeginsWithItemKey text (bucket.Live entry) = BeginsWithKey text (key_of entry)
BeginsWithItemKey text (bucket.Dead gone) = BeginsWithKey text gone
BeginsWithItemKey text (bucket.Init entry) = BeginsWithKey text (key_of entry)

-- these bytes are the encoding of the item, and nothing else
pub record IsItemText (text : List ℕ) (e : BucketEntry) : Type 0 where
  pub encoded : text ≡ bucket_entry.encoding e
  pub within : bucket_entry.within e
  pub sized : bucket_entry.sized e

-- what is shown of an item: its type, its key's text and its own
pub record Shows (item : BucketItem) (text : List ℕ) (e : BucketEntry) : Type 0 where
  pub reads : IsItemText text e
  pub mark : item.mark ≡ item_type e
  pub key : item.key.now ≡ item_key_text e
  pub bytes : item.bytes.now ≡ text

-- ---- an item that is all that is ahead

-- the item where nothing is left after it, or the fault at the first byte left over
abbrev pub ended_by : List ℕ → Position → BucketEntry → Result BucketEntry XdrFault
ended_by [] q e = Ok e
ended_by (b ∷ rest) q e = Err (fault_at q Trailing)

abbrev pub ended : BucketEntry × Position → Result BucketEntry XdrFault
ended x = ended_by x.1.rest x.1 x.0

abbrev pub entire_at : Position → Result BucketEntry XdrFault
entire_at p = bucket_entry.read p >>= ended
