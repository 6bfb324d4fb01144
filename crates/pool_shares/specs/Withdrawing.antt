-- Shares that an account gives back to a pool for their part of its reserves (CAP-0038; getPoolWithdrawalAmount in
-- stellar-core).
use Rattle.std.specs.Prelude.{ℕ, ℤ, pos, neg_ℤ, ◌+ℤ◌, unsigned_abs, Option, Some}
use Rattle.ledger_types.specs.declared.ids.AccountId.{AccountId}
use Rattle.ledger_types.specs.declared.ids.Hash.{Hash}
use Rattle.ledger_types.specs.declared.asset.TrustLineAsset.TheVariants as line
use Rattle.ledger_types.specs.declared.liquidity_pool.LiquidityPoolEntry.{LiquidityPoolEntry}
use Rattle.ledger_types.specs.declared.key.LedgerKey.{LedgerKey}
use Rattle.ledger_types.specs.declared.key.LedgerKey.TheVariants as key
use Rattle.entry_map.specs.EntryMap.{EntryMap}
use Rattle.entry_slots.specs.Pools.{with_pool}
use Rattle.pool_math.specs.Pools.{withdrawn}
use Rattle.trade_cross.specs.Holdings.{paying}

-- amounts of a pool's two assets
pub record Part : Type 0 where
  pub a : ℕ
  pub b : ℕ

-- what so many shares give of a pool's reserves, each rounded down
abbrev pub part_of : LiquidityPoolEntry → (shares : ℤ) → Part
part_of pool shares = record {
  a = withdrawn (unsigned_abs pool.reserve_a) (unsigned_abs pool.total_pool_shares) (unsigned_abs shares);
  b = withdrawn (unsigned_abs pool.reserve_b) (unsigned_abs pool.total_pool_shares) (unsigned_abs shares);
}

-- a pool with so much more of both assets, and so many shares more; each may be below 0
abbrev pub with_change : (a b shares : ℤ) → LiquidityPoolEntry → LiquidityPoolEntry
with_change a b shares pool = record pool {
  reserve_a = pool.reserve_a +ℤ a;
  reserve_b = pool.reserve_b +ℤ b;
  total_pool_shares = pool.total_pool_shares +ℤ shares;
}

-- the key of an account's line of a pool's shares
abbrev pub share_key : AccountId → Hash → Option LedgerKey
share_key id pool = Some (key.TrustLine id (line.PoolShare pool))

-- the map, in which a pool has so much more of both assets, for which an account has so many shares of it more; each
-- may be below 0
abbrev pub map_with_shares : AccountId → Hash → (a b shares : ℤ) → EntryMap → EntryMap
map_with_shares id pool a b shares m = with_pool (paying (share_key id pool) shares m) pool (with_change a b shares)

-- the map after an account gives so many shares back, and before anybody has their part
abbrev pub map_after_withdrawing : AccountId → Hash → (shares : ℤ) → Part → EntryMap → EntryMap
map_after_withdrawing id pool shares part m =
    map_with_shares id pool (neg_ℤ (pos part.a)) (neg_ℤ (pos part.b)) (neg_ℤ shares) m
