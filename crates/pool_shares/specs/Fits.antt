-- That what rises fits its width: a pool's reserves and shares, the counts of its lines, and the uses of lines.
use Rattle.std.specs.Prelude.{◌≡◌, ◌≢◌, ℤ, pos, ◌+ℤ◌, ◌≤ℤ◌, Option, Some}
use Rattle.ledger_types.specs.declared.ids.AccountId.{AccountId}
use Rattle.ledger_types.specs.declared.ids.Hash.{Hash}
use Rattle.ledger_types.specs.declared.asset.Asset.{Asset}
use Rattle.ledger_types.specs.declared.asset.PoolParams.{PoolParams}
use Rattle.ledger_types.specs.declared.asset.TrustLineAsset.{TrustLineAsset}
use Rattle.ledger_types.specs.declared.trust_line.TrustLineEntry.{TrustLineEntry}
use Rattle.ledger_types.specs.declared.liquidity_pool.LiquidityPoolEntry.{LiquidityPoolEntry}
use Rattle.ledger_types.specs.declared.key.LedgerKey.{LedgerKey}
use Rattle.ledger_types.specs.declared.key.LedgerKey.TheVariants as key
use Rattle.entry_map.specs.EntryMap.{EntryMap}
use Rattle.entry_slots.specs.LineExtensions.{use_count}
use Rattle.entry_slots.specs.Lines.{line_at}
use Rattle.entry_slots.specs.Pools.{pool_at}
use Rattle.trade_cross.specs.legal_rules.Holdings.{IsKeyed}
use Rattle.trade_cross.specs.legal_rules.PoolShares.{needed_line}
use Rattle.trade_cross.specs.Locations.{DoesFit}
use Rattle.pool_shares.specs.declared.withdrawing.ShareChange.{ShareChange}

-- a pool's reserves and shares rise by these, which may be below 0
pub record DoesPoolFit (pool : LiquidityPoolEntry) (change : ShareChange) : Type 0 where
  pub a : DoesFit pool.reserve_a change.a
  pub b : DoesFit pool.reserve_b change.b
  pub shares : DoesFit pool.total_pool_shares change.shares

-- A count rises by n, which may be below 0: it falls to 0 at least, and where it rises, not above 32 bits with a sign.
pub record DoesCountFit (count n : ℤ) : Type 0 where
  pub low : pos 0 ≤ℤ (count +ℤ n)
  pub high : pos 1 ≤ℤ n → (count +ℤ n) ≤ℤ pos 2147483647

abbrev pub line_key : AccountId → TrustLineAsset → Option LedgerKey
line_key id held = Some (key.TrustLine id held)

-- the line under a key, where a line's key is named, can be used n times more
abbrev pub DoUsesFitAt : ℤ → EntryMap → Option LedgerKey → Type 0
DoUsesFitAt n m (Some (key.TrustLine id held)) =
    (t : TrustLineEntry) → line_at m id held ≡ Some t → DoesCountFit (use_count t) n
DoUsesFitAt n m other = Unit {0}

-- the line that an account needs for an asset, if it needs one, can be used n times more
abbrev pub DoUsesFit : ℤ → AccountId → Asset → EntryMap → Type 0
DoUsesFit n id asset m = DoUsesFitAt n m (needed_line id asset)

-- a pool, if it exists, can have n lines more
abbrev pub DoLinesFit : ℤ → Hash → EntryMap → Type 0
DoLinesFit n pool m =
    (p : LiquidityPoolEntry) → pool_at m pool ≡ Some p → DoesFit p.pool_shares_trust_line_count n

-- n lines more of an account in a pool with these parameters can be counted; each legal state has its entries under
-- their own keys, and each pool in it has two assets
pub record DoShareLinesFit (n : ℤ) (id : AccountId) (pool : Hash) (params : PoolParams) (m : EntryMap) : Type 0 where
  pub keyed : IsKeyed m
  pub apart : params.asset_a ≢ params.asset_b
  pub a : DoUsesFit n id params.asset_a m
  pub b : DoUsesFit n id params.asset_b m
  pub lines : DoLinesFit n pool m
