-- What lines of pool shares count for their pools and for the lines that they need (CAP-0038).
use Rattle.std.specs.Prelude.{ℤ, pos, ◌+ℤ◌, Option, Some, None}
use Rattle.hash_ids.specs.ledger_types.declared.ids.AccountId.{AccountId}
use Rattle.hash_ids.specs.ledger_types.declared.ids.Hash.{Hash}
use Rattle.hash_ids.specs.ledger_types.declared.asset.Asset.{Asset}
use Rattle.hash_ids.specs.ledger_types.declared.asset.Asset.TheVariants as asset
use Rattle.hash_ids.specs.ledger_types.declared.asset.PoolParams.{PoolParams}
use Rattle.hash_ids.specs.ledger_types.declared.asset.TrustLineAsset.{TrustLineAsset}
use Rattle.hash_ids.specs.ledger_types.declared.asset.TrustLineAsset.TheVariants as line
use Rattle.hash_ids.specs.ledger_types.declared.entry.LedgerEntryBody.{LedgerEntryBody}
use Rattle.hash_ids.specs.ledger_types.declared.entry.LedgerEntryBody.TheVariants as body
use Rattle.hash_ids.specs.ledger_types.declared.key.LedgerKey.{LedgerKey}
use Rattle.hash_ids.specs.ledger_types.declared.key.LedgerKey.TheVariants as key
use Rattle.legal_rules.specs.EntryKeys.{for_key}
use Rattle.legal_rules.specs.Trades.{holder}

-- the parameters of each pool that exists
abbrev pub Pools : Type 0
Pools = Hash → Option PoolParams

-- the pool whose shares a line is in
abbrev pub pool_named : TrustLineAsset → Option LedgerKey
pool_named (line.PoolShare pool) = Some (key.LiquidityPool pool)
pool_named other = None

abbrev pub shares_in : LedgerKey → LedgerEntryBody → ℤ
shares_in k (body.TrustLine line) = for_key k (pool_named line.asset) line.balance
shares_in k other = pos 0

abbrev pub share_lines : LedgerKey → LedgerEntryBody → ℤ
share_lines k (body.TrustLine line) = for_key k (pool_named line.asset) (pos 1)
share_lines k other = pos 0

-- the line that an account needs for an asset, if it needs one
abbrev pub needed_line : AccountId → Asset → Option LedgerKey
needed_line id asset.Native = None
needed_line id other = holder id other

-- once for each of the two lines that an account needs for its shares of a pool
abbrev pub uses_of : LedgerKey → AccountId → Option PoolParams → ℤ
uses_of k id None = pos 0
uses_of k id (Some params) = for_key k (needed_line id params.asset_a) (pos 1) +ℤ
    for_key k (needed_line id params.asset_b) (pos 1)

abbrev pub uses_by : Pools → LedgerKey → AccountId → TrustLineAsset → ℤ
uses_by pools k id (line.PoolShare pool) = uses_of k id (pools pool)
uses_by pools k id other = pos 0

abbrev pub uses : Pools → LedgerKey → LedgerEntryBody → ℤ
uses pools k (body.TrustLine line) = uses_by pools k line.account_id line.asset
uses pools k other = pos 0
