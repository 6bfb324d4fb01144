-- The accounts' entries under their ids, in the order of these.
use Rattle.std.specs.Prelude.{List}
use Rattle.std.specs.List.{AllByRecursion}
use Rattle.ledger_types.specs.declared.ids.AccountId.{AccountId}
use Rattle.ledger_types.specs.declared.entry.LedgerEntry.{LedgerEntry}
use Rattle.ledger_types.specs.declared.key.LedgerKey.{LedgerKey}
use Rattle.ledger_types.specs.declared.key.LedgerKey.TheVariants as key
use Rattle.ledger_types.specs.declared.bucket.BucketEntry.TheVariants as item
use Rattle.bucket_core.specs.bucket_items.MarkedItem.{IsEncodable}
use Rattle.bucket_core.specs.Bucket.{Change, Init}

-- what a bucket says of an account that is new
abbrev pub as_change : AccountId × LedgerEntry → LedgerKey × Change
as_change x = (key.Account x.0, Init x.1)

-- each can be an item of a file
abbrev pub AreEncodable : List (AccountId × LedgerEntry) → Type 0
AreEncodable rows = AllByRecursion (λ x. IsEncodable (item.Init x.1)) rows
