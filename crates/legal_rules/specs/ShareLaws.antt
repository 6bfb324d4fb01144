-- That lines of pool shares which are added and removed leave open what they count for their pools and for the lines
-- that they need, and that a state is legal again once these are counted (CAP-0038).
use Rattle.std.specs.Prelude.{◌≡◌, ◌≢◌, ℕ, ◌≤◌, ℤ, pos, neg_ℤ, ◌+ℤ◌, All, Option, Some, None, Ok}
use Rattle.std.specs.FinMap.{get}
use Rattle.hash_ids.specs.ledger_types.declared.ids.AccountId.{AccountId}
use Rattle.hash_ids.specs.ledger_types.declared.ids.Hash.{Hash}
use Rattle.hash_ids.specs.ledger_types.declared.asset.Asset.{Asset}
use Rattle.hash_ids.specs.ledger_types.declared.asset.PoolParams.{PoolParams}
use Rattle.hash_ids.specs.ledger_types.declared.asset.TrustLineAsset.TheVariants as line
use Rattle.hash_ids.specs.ledger_types.declared.trust_line.TrustLineEntry.{TrustLineEntry}
use Rattle.hash_ids.specs.ledger_types.declared.liquidity_pool.LiquidityPoolEntry.{LiquidityPoolEntry}
use Rattle.hash_ids.specs.ledger_types.declared.header.LedgerHeader.{LedgerHeader}
use Rattle.hash_ids.specs.ledger_types.declared.entry.LedgerEntry.{LedgerEntry}
use Rattle.hash_ids.specs.ledger_types.declared.entry.LedgerEntryExtensionV1.{LedgerEntryExtensionV1}
use Rattle.hash_ids.specs.ledger_types.declared.entry.LedgerEntryBody.TheVariants as body
use Rattle.hash_ids.specs.ledger_types.declared.key.LedgerKey.{LedgerKey}
use Rattle.hash_ids.specs.ledger_types.declared.key.LedgerKey.TheVariants as key
use Rattle.entry_sums.specs.entry_map.EntryMap.{EntryMap}
use Rattle.sponsor_laws.specs.entry_slots.Accounts.{HasAccount}
use Rattle.sponsor_laws.specs.entry_slots.Lines.{line_at, with_line}
use Rattle.sponsor_laws.specs.entry_slots.LineExtensions.{use_count, with_use_count}
use Rattle.sponsor_laws.specs.entry_slots.Pools.{pool_at, with_pool}
use Rattle.sponsor_laws.specs.sponsor_rules.declared.context.Ctx.{Ctx}
use Rattle.sponsor_laws.specs.sponsor_rules.Adding.{map_after_adding}
use Rattle.sponsor_laws.specs.sponsor_rules.Removing.{map_after_removing}
use Rattle.legal_rules.specs.EntryKeys.{for_key}
use Rattle.legal_rules.specs.PoolShares.{needed_line}
use Rattle.legal_rules.specs.Aggregates.{Shares, ShareLines, Uses, View}
use Rattle.legal_rules.specs.Sponsorships.{IsSponsorReady}
use Rattle.legal_rules.specs.EntryLaws.{AreReservesSettled}
use Rattle.legal_rules.specs.Needs.{share_keys}
use Rattle.legal_rules.specs.Legal.{IsLegal}
use Rattle.legal_rules.specs.Owing.{Owed, plus, less, IsEntryLegal, IsLegalOwing}

-- so many shares of a pool in the line of an account
abbrev pub share_line : ℕ → Option LedgerEntryExtensionV1 → AccountId → Hash → (balance limit : ℤ) → LedgerEntry
share_line seq ext id pool balance limit = record {
  last_modified_ledger_seq = seq;
  body = body.TrustLine (record {
    account_id = id;
    asset = line.PoolShare pool;
    balance = balance;
    limit = limit;
    flags = 0;
    ext = None;
  });
  ext = ext;
}

-- what such a line counts beside its reserve: its shares and itself for the pool, and one use for each of the lines
-- that its account needs for the pool's assets
abbrev pub share_aggregates : AccountId → Hash → PoolParams → (balance : ℤ) → Owed
share_aggregates id pool params balance Shares k = for_key k (Some (key.LiquidityPool pool)) balance
share_aggregates id pool params balance ShareLines k = for_key k (Some (key.LiquidityPool pool)) (pos 1)
share_aggregates id pool params balance Uses k = for_key k (needed_line id params.asset_a) (pos 1) +ℤ
    for_key k (needed_line id params.asset_b) (pos 1)
share_aggregates id pool params balance kind k = pos 0

-- ---- within a transaction

abbrev pub ShareLineAdded : Type 0
ShareLineAdded =
    (v : View) (id_pool next : ℕ) (owed : Owed) (sum : ℤ) (ctx : Ctx) (seq : ℕ) (id : AccountId) (pool : Hash)
    (params : PoolParams) (balance limit : ℤ) (old new : EntryMap) → IsLegalOwing v id_pool owed sum old
    → v.pools pool ≡ Some params → get old (key.TrustLine id (line.PoolShare pool)) ≡ None → id_pool ≤ next
    → IsEntryLegal next (share_line seq None id pool balance limit) → HasAccount old id → IsSponsorReady ctx id old
    → map_after_adding ctx id (share_line seq None id pool balance limit) old ≡ Ok new
    → IsLegalOwing v next (plus owed (share_aggregates id pool params balance)) sum new

abbrev pub ShareLineRemoved : Type 0
ShareLineRemoved =
    (v : View) (id_pool : ℕ) (owed : Owed) (sum : ℤ) (seq : ℕ) (ext : Option LedgerEntryExtensionV1) (id : AccountId)
    (pool : Hash) (params : PoolParams) (balance limit : ℤ) (m : EntryMap) → IsLegalOwing v id_pool owed sum m
    → AreReservesSettled owed → v.pools pool ≡ Some params
    → get m (key.TrustLine id (line.PoolShare pool)) ≡ Some (share_line seq ext id pool balance limit)
    → IsLegalOwing v id_pool (plus owed (less (share_aggregates id pool params balance))) sum
    (map_after_removing (key.TrustLine id (line.PoolShare pool)) m)

-- ---- complete changes

-- a line that is used n times more
abbrev pub with_uses : ℤ → TrustLineEntry → TrustLineEntry
with_uses n line = with_use_count (use_count line +ℤ n) line

-- the map, in which the line under a key, where a line's key is named, is used n times more
abbrev pub map_with_uses_at : ℤ → Option LedgerKey → EntryMap → EntryMap
map_with_uses_at n (Some (key.TrustLine id asset)) m = with_line m id asset (with_uses n)
map_with_uses_at n other m = m

-- the map, in which the line that an account needs for an asset, if it needs one, is used n times more
abbrev pub map_with_uses : ℤ → AccountId → Asset → EntryMap → EntryMap
map_with_uses n id asset m = map_with_uses_at n (needed_line id asset) m

-- a pool with n lines more
abbrev pub with_lines : ℤ → LiquidityPoolEntry → LiquidityPoolEntry
with_lines n pool = record pool { pool_shares_trust_line_count = pool.pool_shares_trust_line_count +ℤ n }

-- the map, in which a pool has n lines more
abbrev pub map_with_lines : ℤ → Hash → EntryMap → EntryMap
map_with_lines n pool m = with_pool m pool (with_lines n)

-- the map, in which n lines more of an account in a pool with these parameters are counted: by the pool, and by the
-- lines that the account needs for the pool's assets
abbrev pub map_with_share_lines : ℤ → AccountId → Hash → PoolParams → EntryMap → EntryMap
map_with_share_lines n id pool params m =
    map_with_lines n pool (map_with_uses n id params.asset_b (map_with_uses n id params.asset_a m))

-- the lines that an account needs for shares of a pool with these parameters exist
abbrev pub HasNeededLines : EntryMap → AccountId → PoolParams → Type 0
HasNeededLines m id params = All (λ k. get m k ≢ None) (share_keys id (Some params))

-- An empty line of pool shares is added, and its pool and the lines that its account needs count it.
abbrev pub AddingShareLinesKeep : Type 0
AddingShareLinesKeep =
    (h : LedgerHeader) (ctx : Ctx) (seq : ℕ) (id : AccountId) (pool : Hash) (p : LiquidityPoolEntry) (limit : ℤ)
    (old added : EntryMap) → IsLegal h old → pool_at old pool ≡ Some p → HasNeededLines old id p.params
    → get old (key.TrustLine id (line.PoolShare pool)) ≡ None
    → IsEntryLegal h.id_pool (share_line seq None id pool (pos 0) limit) → HasAccount old id → IsSponsorReady ctx id old
    → map_after_adding ctx id (share_line seq None id pool (pos 0) limit) old ≡ Ok added
    → IsLegal h (map_with_share_lines (pos 1) id pool p.params added)

-- An empty line of pool shares is removed, and its pool and the lines that its account needed count it no more.
abbrev pub RemovingShareLinesKeep : Type 0
RemovingShareLinesKeep =
    (h : LedgerHeader) (id : AccountId) (pool : Hash) (t : TrustLineEntry) (p : LiquidityPoolEntry) (m : EntryMap)
    → IsLegal h m → line_at m id (line.PoolShare pool) ≡ Some t → t.balance ≡ pos 0 → pool_at m pool ≡ Some p
    → IsLegal h (map_with_share_lines (neg_ℤ (pos 1)) id pool p.params
    (map_after_removing (key.TrustLine id (line.PoolShare pool)) m))
