-- How many items of files have keys above one.
use Rattle.std.specs.Prelude.{ℕ, ◌+◌, Bool, true, false, List, [], ◌∷◌, Some, None, Ok, Err}
use Rattle.std.specs.FinMap.{entries}
use Rattle.std.specs.Ordering.{is_lt}
use Rattle.ledger_types.specs.declared.key.LedgerKey.{LedgerKey}
use Rattle.ledger_types.specs.declared.key.LedgerKey.TheVariants as key
use Rattle.ledger_types.specs.KeyOrder.{key_cmp}
use Rattle.xdr_core.specs.declared.fault.XdrFault.{XdrFault}
use Rattle.xdr_core.specs.Position.{Reading, start_of}
use Rattle.xdr_entries.specs.Keys.{ledger_key}
use Rattle.bucket_core.specs.Bucket.{Change, Contents}

abbrev pub one_if : Bool → ℕ
one_if true = 1
one_if false = 0

abbrev pub above_among : LedgerKey → List (LedgerKey × Change) → ℕ
above_among k [] = 0
above_among k (x ∷ xs) = one_if (is_lt (key_cmp k x.0)) + above_among k xs

abbrev pub above_in : LedgerKey → Contents → ℕ
above_in k None = 0
above_in k (Some filled) = above_among k (entries filled.changes)

abbrev pub count_above : LedgerKey → List Contents → ℕ
count_above k [] = 0
count_above k (contents ∷ older) = above_in k contents + count_above k older

-- the key that a text begins with; of a text with none it is of no use
abbrev pub key_read : Reading XdrFault LedgerKey → LedgerKey
key_read (Ok x) = x.0
key_read (Err fault) = key.LiquidityPool (record { 0 = [] })

abbrev pub key_at : List ℕ → LedgerKey
key_at text = key_read (ledger_key.read (start_of text))
