-- Lines of pool shares that come and go, with the pools that have no line yet or any more (CAP-0038; ChangeTrustOpFrame
-- in stellar-core).
use Rattle.std.specs.Prelude.{ℕ, pos, neg_ℤ, Bool, false, Option, Some, None, if◌then◌else◌}
use Rattle.std.specs.Ordering.{int_eq}
use Rattle.ledger_types.specs.declared.ids.AccountId.{AccountId}
use Rattle.ledger_types.specs.declared.ids.Hash.{Hash}
use Rattle.ledger_types.specs.declared.asset.PoolParams.{PoolParams}
use Rattle.ledger_types.specs.declared.asset.TrustLineAsset.TheVariants as line
use Rattle.ledger_types.specs.declared.liquidity_pool.LiquidityPoolEntry.{LiquidityPoolEntry}
use Rattle.ledger_types.specs.declared.key.LedgerKey.TheVariants as key
use Rattle.entry_map.specs.EntryMap.{EntryMap, put, erase}
use Rattle.entry_slots.specs.Pools.{pool_at}
use Rattle.sponsor_rules.specs.Removing.{map_after_removing}
use Rattle.trade_cross.specs.legal_rules.PoolLaws.{new_pool}
use Rattle.trade_cross.specs.legal_rules.ShareLaws.{map_with_share_lines}

-- ---- pools

-- a pool of which nobody has shares
abbrev pub empty_pool : Hash → PoolParams → LiquidityPoolEntry
empty_pool id params = record {
  pool_id = id;
  params = params;
  reserve_a = pos 0;
  reserve_b = pos 0;
  total_pool_shares = pos 0;
  pool_shares_trust_line_count = pos 0;
}

abbrev pub map_with_pool_by : (seq : ℕ) → Hash → PoolParams → EntryMap → Option LiquidityPoolEntry → EntryMap
map_with_pool_by seq id params m None = put m (new_pool seq (empty_pool id params))
map_with_pool_by seq id params m (Some pool) = m

-- the map with a pool, which is made where it doesn't exist
abbrev pub map_with_pool : (seq : ℕ) → Hash → PoolParams → EntryMap → EntryMap
map_with_pool seq id params m = map_with_pool_by seq id params m (pool_at m id)

abbrev pub has_no_line : Option LiquidityPoolEntry → Bool
has_no_line None = false
has_no_line (Some pool) = int_eq pool.pool_shares_trust_line_count (pos 0)

-- the map without a pool that has no line
abbrev pub map_without_bare_pool : Hash → EntryMap → EntryMap
map_without_bare_pool id m = if has_no_line (pool_at m id) then erase m (key.LiquidityPool id) else m

-- ---- lines

-- The map without an account's line of a pool's shares. The pool and the account's lines in its assets count it no
-- more, and the pool goes with its last line.
abbrev pub map_without_share_line : AccountId → Hash → PoolParams → EntryMap → EntryMap
map_without_share_line id pool params m =
    map_without_bare_pool pool
    (map_with_share_lines (neg_ℤ (pos 1)) id pool params
    (map_after_removing (key.TrustLine id (line.PoolShare pool)) m))
