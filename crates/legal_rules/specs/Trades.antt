-- Where offers bind what their sellers hold (CAP-0003).
use Rattle.std.specs.Prelude.{ℤ, pos, Option, Some, None, if◌then◌else◌}
use Rattle.hash_ids.specs.ledger_types.declared.ids.AccountId.{AccountId}
use Rattle.hash_ids.specs.ledger_types.declared.asset.Asset.{Asset}
use Rattle.hash_ids.specs.ledger_types.declared.asset.Asset.TheVariants as asset
use Rattle.hash_ids.specs.ledger_types.declared.asset.TrustLineAsset.TheVariants as line
use Rattle.hash_ids.specs.ledger_types.declared.entry.LedgerEntryBody.{LedgerEntryBody}
use Rattle.hash_ids.specs.ledger_types.declared.entry.LedgerEntryBody.TheVariants as body
use Rattle.hash_ids.specs.ledger_types.declared.key.LedgerKey.{LedgerKey}
use Rattle.hash_ids.specs.ledger_types.declared.key.LedgerKey.TheVariants as key
use Rattle.sponsor_laws.specs.sponsor_rules.Payers.{is_same_account}
use Rattle.legal_rules.specs.EntryKeys.{for_key}
use Rattle.legal_rules.specs.OfferLiabilities.{bound_of}

-- Where an account has an asset: in its own entry or in its line. An issuer needs no line in its own asset.
abbrev pub holder : AccountId → Asset → Option LedgerKey
holder id asset.Native = Some (key.Account id)
holder id (asset.Alphanum4 code issuer) =
    if is_same_account issuer id then None else Some (key.TrustLine id (line.Alphanum4 code issuer))
holder id (asset.Alphanum12 code issuer) =
    if is_same_account issuer id then None else Some (key.TrustLine id (line.Alphanum12 code issuer))

-- what an offer may have to give, for the entry that has it
abbrev pub sells : LedgerKey → LedgerEntryBody → ℤ
sells k (body.Offer offer) = for_key k (holder offer.seller_id offer.selling) (pos (bound_of offer).wheat)
sells k other = pos 0

-- what an offer may take in, for the entry that takes it
abbrev pub buys : LedgerKey → LedgerEntryBody → ℤ
buys k (body.Offer offer) = for_key k (holder offer.seller_id offer.buying) (pos (bound_of offer).sheep)
buys k other = pos 0
