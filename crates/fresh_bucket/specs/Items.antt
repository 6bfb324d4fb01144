-- The items of a fresh bucket, by what a batch says.
use Rattle.std.specs.Prelude.{◌≡◌, ℕ, List, map, Some}
use Rattle.std.specs.Option.{option_or}
use Rattle.std.specs.FinMap.{from_sorted}
use Rattle.ledger_types.specs.declared.bucket.BucketEntry.{BucketEntry}
use Rattle.ledger_types.specs.declared.bucket.BucketEntry.TheVariants as bucket
use Rattle.ledger_types.specs.declared.entry.LedgerEntry.{LedgerEntry}
use Rattle.ledger_types.specs.declared.key.LedgerKey.{LedgerKey}
use Rattle.ledger_types.specs.Keys.{key_of}
use Rattle.entry_map.specs.declared.batch.Batch.{Batch}
use Rattle.entry_table.specs.Rows.{IsRising, value_at}
use Rattle.bucket_core.specs.Bucket.{Change, Init, Live, Dead, Contents}

abbrev pub made : LedgerEntry → LedgerKey × BucketEntry
made e = (key_of e, bucket.Init e)

abbrev pub changed : LedgerEntry → LedgerKey × BucketEntry
changed e = (key_of e, bucket.Live e)

abbrev pub gone : LedgerKey → LedgerKey × BucketEntry
gone k = (k, bucket.Dead k)

-- the items that a batch states, under their keys and in the order of these
pub record IsItemRow (batch : Batch) (row : List (LedgerKey × BucketEntry)) : Type 0 where
  pub rises : IsRising row
  pub each : (k : LedgerKey) → value_at k row ≡ option_or (value_at k (map gone batch.dead))
      (option_or (value_at k (map changed batch.live)) (value_at k (map made batch.init)))

-- what an item says of its key; META has none
abbrev pub stated : BucketEntry → Change
stated (bucket.Meta version) = Dead
stated (bucket.Live entry) = Live entry
stated (bucket.Dead k) = Dead
stated (bucket.Init entry) = Init entry

-- a bucket of these items
abbrev pub bucket_of : ℕ → List (LedgerKey × BucketEntry) → Contents
bucket_of version row =
    Some (record { version = version; changes = from_sorted (map (λ x. (x.0, stated x.1)) row) })
