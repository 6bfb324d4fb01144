-- The ranges of entries but for the ids of pools, which take a hash each, and these by themselves.
use Rattle.std.specs.Prelude.{◌≡◌, ℕ, pos, ◌≤ℤ◌}
use Rattle.std.specs.declared.cmp.Ordering.TheVariants.{Less}
use Rattle.ledger_types.specs.declared.liquidity_pool.LiquidityPoolEntry.{LiquidityPoolEntry}
use Rattle.ledger_types.specs.declared.entry.LedgerEntry.{LedgerEntry}
use Rattle.ledger_types.specs.declared.entry.LedgerEntryBody.{LedgerEntryBody}
use Rattle.ledger_types.specs.declared.entry.LedgerEntryBody.TheVariants as body
use Rattle.ledger_types.specs.KeyOrder.{asset_cmp}
use Rattle.hash_ids.specs.Ids.{pool_id_of}
use Rattle.entry_slots.specs.EntrySponsor.{sponsor_of}
use Rattle.close_rules.specs.legal_rules.Ranges.{IsBodyInRange, IsPaidRightly}

pub record IsPoolInRangeButId (p : LiquidityPoolEntry) : Type 0 where
  pub fee : p.params.fee ≡ pos 30
  pub assets : asset_cmp p.params.asset_a p.params.asset_b ≡ Less
  pub reserve_a : pos 0 ≤ℤ p.reserve_a
  pub reserve_b : pos 0 ≤ℤ p.reserve_b
  pub shares : pos 0 ≤ℤ p.total_pool_shares
  pub lines : pos 0 ≤ℤ p.pool_shares_trust_line_count

abbrev pub IsBodyInRangeButId : ℕ → LedgerEntryBody → Type 0
IsBodyInRangeButId id_pool (body.LiquidityPool pool) = IsPoolInRangeButId pool
IsBodyInRangeButId id_pool other = IsBodyInRange id_pool other

pub record IsEntryInRangeButId (id_pool : ℕ) (e : LedgerEntry) : Type 0 where
  pub body : IsBodyInRangeButId id_pool e.body
  pub paid : IsPaidRightly e.body (sponsor_of e)

-- a pool has the id of its assets
abbrev pub HasPoolId : LedgerEntryBody → Type 0
HasPoolId (body.LiquidityPool pool) = pool.pool_id ≡ pool_id_of pool.params.asset_a pool.params.asset_b
HasPoolId other = Unit {0}
