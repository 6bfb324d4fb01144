-- How many reserves a thing charges, and whom (CAP-0033, CAP-0023 for claimable balances, CAP-0038 for pool shares;
-- SponsorshipUtils in stellar-core).
use Rattle.std.specs.Prelude.{ℕ, Option, Some, None, length}
use Rattle.ledger_types.specs.declared.ids.AccountId.{AccountId}
use Rattle.ledger_types.specs.declared.asset.TrustLineAsset.{TrustLineAsset}
use Rattle.ledger_types.specs.declared.asset.TrustLineAsset.TheVariants as asset
use Rattle.ledger_types.specs.declared.entry.LedgerEntryBody.{LedgerEntryBody}
use Rattle.ledger_types.specs.declared.entry.LedgerEntryBody.TheVariants as body
use Rattle.sponsor_rules.specs.declared.charge.Charge.{Charge}
use Rattle.sponsor_rules.specs.declared.charge.Charge.TheVariants as charge

-- a line of pool shares counts twice
abbrev pub line_multiplicity : TrustLineAsset → ℕ
line_multiplicity (asset.PoolShare pool) = 2
line_multiplicity other = 1

abbrev pub charge_of : LedgerEntryBody → Charge
charge_of (body.Account account) = charge.Itself account.account_id
charge_of (body.TrustLine line) = charge.Subentry line.account_id (line_multiplicity line.asset)
charge_of (body.Offer offer) = charge.Subentry offer.seller_id 1
charge_of (body.Data data_entry) = charge.Subentry data_entry.account_id 1
charge_of (body.ClaimableBalance balance) = charge.Payer (length balance.claimants)
charge_of (body.LiquidityPool pool) = charge.Nobody

abbrev pub multiplicity_in : Charge → ℕ
multiplicity_in (charge.Itself owner) = 2
multiplicity_in (charge.Subentry owner k) = k
multiplicity_in (charge.Payer k) = k
multiplicity_in charge.Nobody = 0

-- how often a thing counts
abbrev pub multiplicity : LedgerEntryBody → ℕ
multiplicity b = multiplicity_in (charge_of b)

abbrev pub owner_in : Charge → Option AccountId
owner_in (charge.Itself owner) = Some owner
owner_in (charge.Subentry owner k) = Some owner
owner_in (charge.Payer k) = None
owner_in charge.Nobody = None

-- whose a thing is: an account is its own, and claimable balances and pools name no owner
abbrev pub owner_of : LedgerEntryBody → Option AccountId
owner_of b = owner_in (charge_of b)
