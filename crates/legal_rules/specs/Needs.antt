-- Under which keys something has to exist beside an entry.
use Rattle.std.specs.Prelude.{List, [], ◌∷◌, ◌++◌, Option, Some, None}
use Rattle.std.specs.List.{flat_map}
use Rattle.hash_ids.specs.ledger_types.declared.ids.AccountId.{AccountId}
use Rattle.hash_ids.specs.ledger_types.declared.asset.PoolParams.{PoolParams}
use Rattle.hash_ids.specs.ledger_types.declared.asset.TrustLineAsset.{TrustLineAsset}
use Rattle.hash_ids.specs.ledger_types.declared.asset.TrustLineAsset.TheVariants as line
use Rattle.hash_ids.specs.ledger_types.declared.entry.LedgerEntry.{LedgerEntry}
use Rattle.hash_ids.specs.ledger_types.declared.entry.LedgerEntryBody.{LedgerEntryBody}
use Rattle.hash_ids.specs.ledger_types.declared.entry.LedgerEntryBody.TheVariants as body
use Rattle.hash_ids.specs.ledger_types.declared.key.LedgerKey.{LedgerKey}
use Rattle.hash_ids.specs.ledger_types.declared.key.LedgerKey.TheVariants as key
use Rattle.sponsor_laws.specs.entry_slots.EntrySponsor.{sponsor_of}
use Rattle.sponsor_laws.specs.sponsor_rules.Charge.{owner_of}
use Rattle.legal_rules.specs.Reserves.{signer_sponsors_in}
use Rattle.legal_rules.specs.Trades.{holder}
use Rattle.legal_rules.specs.PoolShares.{Pools, needed_line}

-- the key of an account, where one is named
abbrev pub account_keys : Option AccountId → List LedgerKey
account_keys None = []
account_keys (Some id) = key.Account id ∷ []

abbrev pub keys_in : Option LedgerKey → List LedgerKey
keys_in None = []
keys_in (Some k) = k ∷ []

-- the lines that the holder of pool shares needs, where the pool exists
abbrev pub share_keys : AccountId → Option PoolParams → List LedgerKey
share_keys id None = []
share_keys id (Some params) = keys_in (needed_line id params.asset_a) ++ keys_in (needed_line id params.asset_b)

abbrev pub pool_keys : Pools → AccountId → TrustLineAsset → List LedgerKey
pool_keys pools id (line.PoolShare pool) = key.LiquidityPool pool ∷ share_keys id (pools pool)
pool_keys pools id other = []

-- a line of pool shares needs its pool and the lines of the pool's assets, an offer the lines of both its assets
abbrev pub holding_keys : Pools → LedgerEntryBody → List LedgerKey
holding_keys pools (body.TrustLine line) = pool_keys pools line.account_id line.asset
holding_keys pools (body.Offer offer) =
    keys_in (holder offer.seller_id offer.selling) ++ keys_in (holder offer.seller_id offer.buying)
holding_keys pools other = []

-- under which keys something has to exist beside an entry: its owner, its sponsor, its signers' sponsors, and what it
-- holds or trades in
abbrev pub needed_keys : Pools → LedgerEntry → List LedgerKey
needed_keys pools e =
    account_keys (owner_of e.body) ++ account_keys (sponsor_of e) ++ flat_map account_keys (signer_sponsors_in e.body)
    ++ holding_keys pools e.body
