-- What pools and lines of their shares ask of a map, so that no count and no amount of them leaves its width. Each
-- legal state meets it.
use Rattle.std.specs.Prelude.{◌≡◌, ◌≢◌, ℕ, pos, neg_ℤ, ◌≤ℤ◌, Some, None}
use Rattle.ledger_types.specs.declared.ids.AccountId.{AccountId}
use Rattle.ledger_types.specs.declared.ids.Hash.{Hash}
use Rattle.ledger_types.specs.declared.account.AccountEntry.{AccountEntry}
use Rattle.ledger_types.specs.declared.asset.TrustLineAsset.{TrustLineAsset}
use Rattle.ledger_types.specs.declared.asset.TrustLineAsset.TheVariants as line
use Rattle.ledger_types.specs.declared.trust_line.TrustLineEntry.{TrustLineEntry}
use Rattle.ledger_types.specs.declared.liquidity_pool.LiquidityPoolEntry.{LiquidityPoolEntry}
use Rattle.ledger_types.specs.declared.entry.LedgerEntryBody.TheVariants as body
use Rattle.entry_map.specs.EntryMap.{EntryMap}
use Rattle.entry_slots.specs.Accounts.{account_at}
use Rattle.entry_slots.specs.LineExtensions.{use_count}
use Rattle.entry_slots.specs.Lines.{line_at}
use Rattle.entry_slots.specs.Pools.{pool_at}
use Rattle.sponsor_rules.specs.reserve_rules.Reserve.{greatest_i64, min_balance}
use Rattle.trade_cross.specs.legal_rules.Bounds.{IsFilledOrEmpty}
use Rattle.trade_cross.specs.legal_rules.Holdings.{IsKeyed}
use Rattle.trade_cross.specs.legal_rules.Ranges.{IsPoolInRange}
use Rattle.pool_shares.specs.Fits.{DoShareLinesFit}

pub record ArePoolsSound (m : EntryMap) : Type 0 where
  -- each entry, a pool too, is under its own key
  pub keyed : IsKeyed m
  -- each pool is in its range, and has both reserves and shares, or none of the three
  pub ranges : (id : Hash) (p : LiquidityPoolEntry) → pool_at m id ≡ Some p → IsPoolInRange p
  pub filled : (id : Hash) (p : LiquidityPoolEntry) → pool_at m id ≡ Some p → IsFilledOrEmpty (body.LiquidityPool p)
  -- no line has more shares of a pool than there are
  pub shares : (id : AccountId) (pool : Hash) (t : TrustLineEntry) (p : LiquidityPoolEntry)
      → line_at m id (line.PoolShare pool) ≡ Some t → pool_at m pool ≡ Some p → t.balance ≤ℤ p.total_pool_shares
  -- the width of a limit
  pub limits : (id : AccountId) (held : TrustLineAsset) (t : TrustLineEntry) → line_at m id held ≡ Some t
      → t.limit ≤ℤ greatest_i64
  -- what has to be kept isn't below 0
  pub minimums : (id : AccountId) (a : AccountEntry) (base_reserve : ℕ) → account_at m id ≡ Some a
      → pos 0 ≤ℤ min_balance a base_reserve
  -- no line is used less often than never
  pub uses : (id : AccountId) (held : TrustLineAsset) (t : TrustLineEntry) → line_at m id held ≡ Some t
      → pos 0 ≤ℤ use_count t
  -- each line of shares has its pool beside it
  pub pooled : (id : AccountId) (pool : Hash) (t : TrustLineEntry) → line_at m id (line.PoolShare pool) ≡ Some t
      → pool_at m pool ≢ None
  -- and is counted, by the pool and by the lines that its account needs
  pub counted : (id : AccountId) (pool : Hash) (t : TrustLineEntry) (p : LiquidityPoolEntry)
      → line_at m id (line.PoolShare pool) ≡ Some t → pool_at m pool ≡ Some p
      → DoShareLinesFit (neg_ℤ (pos 1)) id pool p.params m
