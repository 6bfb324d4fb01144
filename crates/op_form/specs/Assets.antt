-- Assets that are issued: who issues one, and which line holds it (isIssuer and assetToTrustLineAsset in stellar-core).
use Rattle.std.specs.Prelude.{Bool, true, false, Option, None}
use Rattle.ledger_types.specs.declared.ids.AccountId.{AccountId}
use Rattle.ledger_types.specs.declared.account.AccountEntry.{AccountEntry}
use Rattle.ledger_types.specs.declared.asset.Asset.{Asset}
use Rattle.ledger_types.specs.declared.asset.Asset.TheVariants as asset
use Rattle.ledger_types.specs.declared.asset.TrustLineAsset.{TrustLineAsset}
use Rattle.ledger_types.specs.declared.asset.TrustLineAsset.TheVariants as line
use Rattle.ledger_types.specs.declared.trust_line.TrustLineEntry.{TrustLineEntry}
use Rattle.entry_map.specs.EntryMap.{EntryMap}
use Rattle.entry_slots.specs.Accounts.{account_at}
use Rattle.entry_slots.specs.Lines.{line_at}
use Rattle.sponsor_rules.specs.Payers.{is_same_account}

abbrev pub is_native : Asset → Bool
is_native asset.Native = true
is_native issued = false

-- nobody issues lumens
abbrev pub is_issued_by : Asset → AccountId → Bool
is_issued_by asset.Native id = false
is_issued_by (asset.Alphanum4 code issuer) id = is_same_account issuer id
is_issued_by (asset.Alphanum12 code issuer) id = is_same_account issuer id

-- the account that issues an asset, where that exists
abbrev pub issuer_at : EntryMap → Asset → Option AccountEntry
issuer_at m asset.Native = None
issuer_at m (asset.Alphanum4 code issuer) = account_at m issuer
issuer_at m (asset.Alphanum12 code issuer) = account_at m issuer

-- what the line is in that holds an asset; no line holds lumens
abbrev pub line_asset_of : Asset → TrustLineAsset
line_asset_of asset.Native = line.Native
line_asset_of (asset.Alphanum4 code issuer) = line.Alphanum4 code issuer
line_asset_of (asset.Alphanum12 code issuer) = line.Alphanum12 code issuer

-- an account's line in an asset, if it exists
abbrev pub line_of_asset : EntryMap → AccountId → Asset → Option TrustLineEntry
line_of_asset m id held = line_at m id (line_asset_of held)
