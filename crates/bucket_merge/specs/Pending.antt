-- What a merge has before it.
use Rattle.std.specs.Prelude.{◌≡◌, ◌++◌, ◌+◌, ℕ, List, [], map, length, Option, Some, None, if◌then◌else◌}
use Rattle.std.specs.Option.{is_some}
use Rattle.std.specs.List.{flat_map, AllByRecursion}
use Rattle.bucket_core.specs.ledger_types.declared.key.LedgerKey.{LedgerKey}
use Rattle.bucket_core.specs.ledger_types.declared.bucket.BucketEntry.TheVariants as bucket
use Rattle.bucket_items.specs.declared.item.BucketItem.{BucketItem}
use Rattle.bucket_items.specs.MarkedItem.{record_of, IsEncodable}
use Rattle.bucket_items.specs.Item.{Shows}
use Rattle.bucket_core.specs.Bucket.{Change, IsUnderKey}
use Rattle.bucket_core.specs.File.{item_of}
use Rattle.bucket_core.specs.Cursor.{TakesFirst}
use Rattle.bucket_merge.specs.declared.side.Side.{Side}
use Rattle.bucket_merge.specs.Walk.{Pair, walk}

-- what an item says of the entry under a key
pub record States (item : BucketItem) (k : LedgerKey) (change : Change) : Type 0 where
  pub shown : Shows item item.bytes.now (item_of (k, change))
  pub keyed : IsUnderKey k change
  pub encoded : IsEncodable (item_of (k, change))

-- the records of changes
abbrev pub records_of : List Pair → List ℕ
records_of changes = flat_map record_of (map item_of changes)

-- these changes of one side are still to be merged, each under its own key
pub record Has (side : Side) (changes : List Pair) : Type 0 where
  pub first : TakesFirst (map item_of changes) side.hand side.ahead
  pub keyed : AllByRecursion (λ x. IsUnderKey x.0 x.1) changes
  pub encoded : AllByRecursion (λ x. IsEncodable (item_of x)) changes

-- how many changes of one side are still to be merged
abbrev pub size_of : Side → ℕ
size_of side = length side.ahead + (if is_some side.hand then 1 else 0)

-- what was written goes on to the entire text by the merge of what is still ahead
pub record GoesTo (level : ℕ) (entire written : List ℕ) (older newer : Side) : Type 0 where
  pub old : List Pair
  pub new : List Pair
  pub has_old : Has older old
  pub has_new : Has newer new
  pub rest : written ++ records_of (walk level old new) ≡ entire

-- META of a version, or nothing
abbrev pub meta_of : Option ℕ → List ℕ
meta_of None = []
meta_of (Some version) = record_of (bucket.Meta version)
