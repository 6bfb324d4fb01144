-- What entries hold of an asset: balances of accounts and lines, claimable balances and the reserves of pools.
use Rattle.std.specs.Prelude.{ℤ, pos, ◌+ℤ◌, Option, Some, None, if◌then◌else◌}
use Rattle.std.specs.Ordering.{is_eq}
use Rattle.hash_ids.specs.ledger_types.declared.ids.AccountId.{AccountId}
use Rattle.hash_ids.specs.ledger_types.declared.asset.Asset.{Asset}
use Rattle.hash_ids.specs.ledger_types.declared.asset.Asset.TheVariants as asset
use Rattle.hash_ids.specs.ledger_types.declared.asset.TrustLineAsset.{TrustLineAsset}
use Rattle.hash_ids.specs.ledger_types.declared.asset.TrustLineAsset.TheVariants as line
use Rattle.hash_ids.specs.ledger_types.declared.account.AccountEntry.{AccountEntry}
use Rattle.hash_ids.specs.ledger_types.declared.entry.LedgerEntryBody.{LedgerEntryBody}
use Rattle.hash_ids.specs.ledger_types.declared.entry.LedgerEntryBody.TheVariants as body
use Rattle.hash_ids.specs.ledger_types.KeyOrder.{asset_cmp}
use Rattle.entry_sums.specs.entry_map.EntryMap.{EntryMap}
use Rattle.sponsor_laws.specs.entry_slots.Accounts.{account_at}
use Rattle.entry_sums.specs.Sums.{Weight}

-- n of an asset, where that is the one asked for
abbrev pub of_asset : Asset → Asset → ℤ → ℤ
of_asset x a n = if is_eq (asset_cmp x a) then n else pos 0

-- shares of pools are no asset that is held so
abbrev pub of_line : Asset → TrustLineAsset → ℤ → ℤ
of_line x line.Native n = pos 0
of_line x (line.Alphanum4 code issuer) n = of_asset x (asset.Alphanum4 code issuer) n
of_line x (line.Alphanum12 code issuer) n = of_asset x (asset.Alphanum12 code issuer) n
of_line x (line.PoolShare pool) n = pos 0

-- lumens, where these are asked for
abbrev pub lumens_of : Asset → ℤ → ℤ
lumens_of x n = of_asset x asset.Native n

-- what an entry holds of an asset
abbrev pub held_in : Asset → LedgerEntryBody → ℤ
held_in x (body.Account account) = lumens_of x account.balance
held_in x (body.TrustLine line) = of_line x line.asset line.balance
held_in x (body.ClaimableBalance balance) = of_asset x balance.asset balance.amount
held_in x (body.LiquidityPool pool) = of_asset x pool.params.asset_a pool.reserve_a +ℤ
    of_asset x pool.params.asset_b pool.reserve_b
held_in x other = pos 0

abbrev pub held : Asset → Weight
held x e = held_in x e.body

-- ---- accounts

abbrev pub lumens_in : Option AccountEntry → ℤ
lumens_in None = pos 0
lumens_in (Some account) = account.balance

-- the lumens of an account; one that doesn't exist has none
abbrev pub lumens_at : EntryMap → AccountId → ℤ
lumens_at m id = lumens_in (account_at m id)
