-- The least key above one of which files say something.
use Rattle.std.specs.Prelude.{◌≡◌, ◌≢◌, Option, Some, None, option_map}
use Rattle.std.specs.Option.{option_or}
use Rattle.std.specs.declared.cmp.Ordering.TheVariants.{Less, Greater}
use Rattle.ledger_types.specs.declared.bucket.BucketEntry.{BucketEntry}
use Rattle.ledger_types.specs.declared.entry.LedgerEntry.{LedgerEntry}
use Rattle.ledger_types.specs.declared.key.LedgerKey.{LedgerKey}
use Rattle.ledger_types.specs.KeyOrder.{key_cmp}
use Rattle.ledger_types.specs.Keys.{key_of}
use Rattle.bucket_core.specs.Bucket.{Change}
use Rattle.bucket_core.specs.File.{item_of}
use Rattle.level_pages.specs.Newest.{entry_in}

-- what is said of each key
abbrev pub Says : Type 0
Says = LedgerKey → Option Change

pub record IsLeastSaid (says : Says) (k : LedgerKey) (x : LedgerKey × BucketEntry) : Type 0 where
  pub item : Some x.1 ≡ option_map (λ change. item_of (x.0, change)) (says x.0)
  pub own : (e : LedgerEntry) → entry_in x.1 ≡ Some e → key_of e ≡ x.0
  pub above : key_cmp k x.0 ≡ Less
  pub least : (q : LedgerKey) → key_cmp k q ≡ Less → says q ≢ None → key_cmp x.0 q ≢ Greater

-- nothing is said of a key above, or this is said of the least one
abbrev pub IsLeast : Says → LedgerKey → Option (LedgerKey × BucketEntry) → Type 0
IsLeast says k None = (q : LedgerKey) → key_cmp k q ≡ Less → says q ≡ None
IsLeast says k (Some x) = IsLeastSaid says k x

-- what the first says, and else what the second does
abbrev pub in_turn : Says → Says → Says
in_turn f g = λ q. option_or (f q) (g q)
