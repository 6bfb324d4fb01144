-- Pools are short.
use Rattle.close_laws.proofs.Prelude.{pos, ◌≤ℤ◌, PoolParams, LiquidityPoolEntry, i32, constant, pool_fields}
use Rattle.close_laws.proofs.Prelude.{liquidity_pool_entry, IsEncoded}
use Rattle.close_rules.specs.xdr_entries.Basic as basic
use Rattle.close_laws.proofs.Bytes.{ArePoolBytes}
use Rattle.close_laws.proofs.Short as short
use Rattle.close_laws.proofs.Short.{IsShort}
use Rattle.close_laws.proofs.ShortIds.{hash_short, fits_i64}
use Rattle.close_laws.proofs.ShortBalances.{asset_short}

-- the numbers of a pool, which aren't below 0
pub record ArePoolNumbers (pool : LiquidityPoolEntry) : Type 0 where
  pub reserve_a : pos 0 ≤ℤ pool.reserve_a
  pub reserve_b : pos 0 ≤ℤ pool.reserve_b
  pub shares : pos 0 ≤ℤ pool.total_pool_shares
  pub lines : pos 0 ≤ℤ pool.pool_shares_trust_line_count

params_short : (params : PoolParams) → IsEncoded basic.pool_params params → IsShort basic.pool_params 124 params
unfolding basic.pool_params constant i32
params_short params encoded =
    short.short_struct basic.pool_params_fields (short.short_marked (pos 0)
    (short.short_both
    (asset_short params.asset_a (record { within = encoded.within.1.0; sized = encoded.sized.1.0 }))
    (short.short_both
    (asset_short params.asset_b (record { within = encoded.within.1.1.0; sized = encoded.sized.1.1.0 }))
    (short.short_i32 params.fee encoded.sized.1.1.1))))

pub pool_short : (pool : LiquidityPoolEntry) → ArePoolBytes pool → ArePoolNumbers pool
    → IsShort liquidity_pool_entry 191 pool
unfolding liquidity_pool_entry
pool_short pool bytes numbers =
    short.short_struct pool_fields (short.short_both (hash_short pool.pool_id bytes.id)
    (short.short_both (params_short pool.params bytes.params)
    (short.short_both (short.short_i64 pool.reserve_a (fits_i64 _ numbers.reserve_a bytes.reserve_a))
    (short.short_both (short.short_i64 pool.reserve_b (fits_i64 _ numbers.reserve_b bytes.reserve_b))
    (short.short_both (short.short_i64 pool.total_pool_shares (fits_i64 _ numbers.shares bytes.shares))
    (short.short_i64 pool.pool_shares_trust_line_count (fits_i64 _ numbers.lines bytes.lines)))))))
