-- How the entries of a ledger are gone through, from the first one on.
use Rattle.std.specs.Prelude.{ℤ, ◌+ℤ◌, replicate}
use Rattle.std.specs.FinMap.{entries}
use Rattle.ledger_types.specs.declared.asset.Asset.{Asset}
use Rattle.ledger_types.specs.declared.liquidity_pool.LiquidityPoolEntry.{LiquidityPoolEntry}
use Rattle.ledger_types.specs.declared.key.LedgerKey.{LedgerKey}
use Rattle.ledger_types.specs.declared.key.LedgerKey.TheVariants as key
use Rattle.entry_map.specs.EntryMap.{EntryMap}
use Rattle.legal_rules.specs.entry_sums.Sums.{Weight, sum_over}
use Rattle.legal_rules.specs.Supply.{of_asset}
use Rattle.offer_book.specs.Sold.{above}

-- the key of the account whose id is 32 zero bytes
abbrev pub first_key : LedgerKey
first_key = key.Account (record { 0 = replicate 32 0 })

-- what both reserves of a pool are in an asset
abbrev pub held_in_pool : Asset → LiquidityPoolEntry → ℤ
held_in_pool x pool = of_asset x pool.params.asset_a pool.reserve_a +ℤ of_asset x pool.params.asset_b pool.reserve_b

-- the sum over what comes after a key
abbrev pub sum_after : Weight → EntryMap → LedgerKey → ℤ
sum_after f m k = sum_over f (above k (entries m))
