-- An item of a bucket's file after its record mark (BucketEntry in Stellar-ledger.x; RFC 5531, 11, for the marks).
use Rattle.std.specs.Prelude.{◌≡◌, ℕ, ◌+◌, ◌≤◌, List, length, Option, Some, None, Result, Ok, Err, IfSome}
use Rattle.xdr_core.specs.declared.fault.XdrFault.{XdrFault}
use Rattle.xdr_core.specs.declared.read_fault.ReadFault.{ReadFault}
use Rattle.xdr_core.specs.ReadFault.{cause_of}
use Rattle.xdr_core.specs.Position.{Position, Reading, ◌>>=◌}
use Rattle.xdr_core.specs.Leaves.{mark}
use Rattle.ledger_types.specs.declared.bucket.BucketEntry.{BucketEntry}
use Rattle.xdr_entries.specs.Keys.{bucket_entry}
use Rattle.bucket_items.specs.declared.item.BucketItem.{BucketItem}
use Rattle.bucket_items.specs.Item.{entire_at, Shows}

-- the greatest length of an item
abbrev pub max_item_len : ℕ
max_item_len = 2147483647

-- an item's encoding after its record mark
abbrev pub record_of : BucketEntry → List ℕ
record_of item = (mark max_item_len).encoding (bucket_entry.encoding item)

-- an item that has an encoding, no longer than a record mark can state
pub record IsEncodable (item : BucketEntry) : Type 0 where
  pub within : bucket_entry.within item
  pub sized : bucket_entry.sized item
  pub short : length (bucket_entry.encoding item) ≤ max_item_len

-- ---- reading

-- what comes after the mark of a piece
abbrev pub after_mark : Position → List ℕ → Position
after_mark p text = record { at = p.at + 4; rest = text }

-- an item that is all of a marked piece, and the offset after the piece; offsets are those of the entire text
abbrev pub item_in : Position → List ℕ × Position → Reading XdrFault BucketEntry
item_in p t = entire_at (after_mark p t.0) >>= λ e. Ok (e, t.1)

abbrev pub item_at : Position → Reading XdrFault BucketEntry
item_at p = (mark max_item_len).read p >>= item_in p

-- ---- readers

-- what a reader of an item that is all that is ahead answered
abbrev pub ReadsEntire : Result BucketEntry ReadFault → Position → Type 0
ReadsEntire (Ok e) p = entire_at p ≡ Ok e
ReadsEntire (Err d) p = IfSome (cause_of d) (λ f. entire_at p ≡ Err f)

-- what a reader of the next item answered
abbrev pub ReadsItem : Result BucketItem ReadFault → Position → Position → Type 0
ReadsItem (Ok item) old new = (e : BucketEntry) × (item_at old ≡ Ok (e, new)) × Shows item item.bytes.now e
ReadsItem (Err d) old new = IfSome (cause_of d) (λ f. item_at old ≡ Err f) × (new ≡ old)

-- the item e was shown, and the offset q after it was reached
abbrev pub TakesItem : Option BucketItem → Position → BucketEntry → Position → Type 0
TakesItem None new e q = ⊥
TakesItem (Some item) new e q = (new ≡ q) × Shows item item.bytes.now e
