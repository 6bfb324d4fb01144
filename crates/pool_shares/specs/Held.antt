-- The lines of an account, one after another.
use Rattle.std.specs.Prelude.{◌≡◌, ◌≢◌, ◌<◌, List, [], ◌++◌, map, length, Option, Some, None, if◌then◌else◌}
use Rattle.std.specs.declared.cmp.Ordering.TheVariants.{Less, Greater}
use Rattle.std.specs.List.{filter_map, cons_option}
use Rattle.std.specs.FinMap.{entries}
use Rattle.ledger_types.specs.declared.ids.AccountId.{AccountId}
use Rattle.ledger_types.specs.declared.ids.Hash.{Hash}
use Rattle.ledger_types.specs.declared.asset.TrustLineAsset.{TrustLineAsset}
use Rattle.ledger_types.specs.declared.asset.TrustLineAsset.TheVariants as line
use Rattle.ledger_types.specs.declared.entry.LedgerEntry.{LedgerEntry}
use Rattle.ledger_types.specs.declared.entry.LedgerEntryBody.{LedgerEntryBody}
use Rattle.ledger_types.specs.declared.entry.LedgerEntryBody.TheVariants as body
use Rattle.ledger_types.specs.declared.key.LedgerKey.{LedgerKey}
use Rattle.ledger_types.specs.declared.key.LedgerKey.TheVariants as key
use Rattle.ledger_types.specs.KeyOrder.{line_cmp, key_cmp}
use Rattle.entry_map.specs.EntryMap.{EntryMap}
use Rattle.sponsor_rules.specs.Payers.{is_same_account}
use Rattle.trade_cross.specs.legal_rules.Holdings.{IsKeyed}
use Rattle.trade_cross.specs.offer_book.Sold.{above}
use Rattle.pool_shares.specs.AccountPools.{pool_in_line, pool_held_by}

-- what the line is in that an entry is, if it is one of the account
abbrev pub line_held : AccountId → LedgerEntryBody → Option TrustLineAsset
line_held id (body.TrustLine line) = if is_same_account line.account_id id then Some line.asset else None
line_held id other = None

-- what is after a line's key
abbrev pub left : EntryMap → AccountId → TrustLineAsset → List (LedgerKey × LedgerEntry)
left m id asset = above (key.TrustLine id asset) (entries m)

-- the pools of which an account has lines among entries
abbrev pub held_in : AccountId → List (LedgerKey × LedgerEntry) → List Hash
held_in id pairs = filter_map (λ e. pool_held_by id e.body) (map (λ pair. pair.1) pairs)

-- a line is the account's first after another one
pub record IsFirstLine (m : EntryMap) (id : AccountId) (after next : TrustLineAsset) : Type 0 where
  pub first : held_in id (left m id after) ≡ cons_option (pool_in_line next) (held_in id (left m id next))
  pub fewer : length (left m id next) < length (left m id after)

abbrev pub IsNextLine : EntryMap → AccountId → TrustLineAsset → Option TrustLineAsset → Type 0
IsNextLine m id after None = IsKeyed m → held_in id (left m id after) ≡ []
IsNextLine m id after (Some next) = IsFirstLine m id after next

-- a key is behind all lines of an account
abbrev pub AreLinesUpTo : AccountId → LedgerKey → Type 0
AreLinesUpTo id last = (asset : TrustLineAsset) → key_cmp (key.TrustLine id asset) last ≢ Greater

-- an asset that is ahead of each pool share
abbrev pub IsAheadOfShares : TrustLineAsset → Type 0
IsAheadOfShares asset = (pool : Hash) → line_cmp asset (line.PoolShare pool) ≡ Less

-- pools, with the one in whose shares a line is
abbrev pub with_pool_of : TrustLineAsset → List Hash → List Hash
with_pool_of asset pools = pools ++ cons_option (pool_in_line asset) []
