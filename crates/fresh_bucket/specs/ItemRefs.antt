-- The items of a fresh bucket, where a batch has them.
use Rattle.std.specs.Prelude.{List, map}
use Rattle.ledger_types.specs.declared.bucket.BucketEntry.{BucketEntry}
use Rattle.ledger_types.specs.declared.bucket.BucketEntry.TheVariants as bucket
use Rattle.ledger_types.specs.declared.key.LedgerKey.{LedgerKey}
use Rattle.fresh_bucket.specs.declared.item_ref.ItemRef.{ItemRef}
use Rattle.fresh_bucket.specs.declared.item_ref.ItemRef.TheVariants as at

-- the item that is there
abbrev pub item_at : ItemRef → BucketEntry
item_at (at.Init entry) = bucket.Init entry.now
item_at (at.Live entry) = bucket.Live entry.now
item_at (at.Dead k) = bucket.Dead k.now

abbrev pub items_at : List (LedgerKey × ItemRef) → List (LedgerKey × BucketEntry)
items_at row = map (λ x. (x.0, item_at x.1)) row
