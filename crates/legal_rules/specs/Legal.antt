-- When the state of a ledger, a header and the map of its entries, is legal.
use Rattle.std.specs.Prelude.{◌≡◌, ◌≢◌, ◌%◌, ◌+ℤ◌, ◌++◌, All, Option, Some, None}
use Rattle.std.specs.FinMap.{get}
use Rattle.hash_ids.specs.ledger_types.declared.asset.Asset.TheVariants as asset
use Rattle.hash_ids.specs.ledger_types.declared.asset.PoolParams.{PoolParams}
use Rattle.hash_ids.specs.ledger_types.declared.trust_line.TrustLineEntry.{TrustLineEntry}
use Rattle.hash_ids.specs.ledger_types.declared.header.LedgerHeader.{LedgerHeader}
use Rattle.hash_ids.specs.ledger_types.declared.entry.LedgerEntry.{LedgerEntry}
use Rattle.hash_ids.specs.ledger_types.declared.entry.LedgerEntryBody.{LedgerEntryBody}
use Rattle.hash_ids.specs.ledger_types.declared.entry.LedgerEntryBody.TheVariants as body
use Rattle.hash_ids.specs.ledger_types.declared.key.LedgerKey.{LedgerKey}
use Rattle.hash_ids.specs.ledger_types.declared.key.LedgerKey.TheVariants as key
use Rattle.hash_ids.specs.ledger_types.Keys.{key_of}
use Rattle.entry_sums.specs.entry_map.EntryMap.{EntryMap}
use Rattle.sponsor_laws.specs.entry_slots.Lines.{line_of}
use Rattle.entry_sums.specs.Sums.{total, EachEntry}
use Rattle.legal_rules.specs.Aggregates.{Kind, Subentries, Sponsoring, Sponsored, Selling, Buying, Shares, ShareLines}
use Rattle.legal_rules.specs.Aggregates.{Uses}
use Rattle.legal_rules.specs.Aggregates.{View, counted, stated_at}
use Rattle.legal_rules.specs.Trades.{holder}
use Rattle.legal_rules.specs.PoolShares.{Pools}
use Rattle.legal_rules.specs.Supply.{held}
use Rattle.legal_rules.specs.OfferIds.{AreOffersApart}
use Rattle.legal_rules.specs.Needs.{keys_in, needed_keys}
use Rattle.legal_rules.specs.Bounds.{AreSubentriesFew, DoReservesFit, IsFilledOrEmpty}
use Rattle.legal_rules.specs.Ranges.{IsEntryInRange}
use Rattle.legal_rules.specs.Headers.{IsHeaderInRange}

-- ---- what sums are taken by

abbrev pub params_in : LedgerEntryBody → Option PoolParams
params_in (body.LiquidityPool pool) = Some pool.params
params_in other = None

abbrev pub params_of : Option LedgerEntry → Option PoolParams
params_of None = None
params_of (Some e) = params_in e.body

abbrev pub pools_in : EntryMap → Pools
pools_in m id = params_of (get m (key.LiquidityPool id))

-- lumens, with the pools that exist
abbrev pub view : EntryMap → View
view m = record { pools = pools_in m; asset = asset.Native }

-- what the entry under each key states, 0 where none exists there, is the sum of what all entries count for it
abbrev pub IsAggregated : Kind → EntryMap → Type 0
IsAggregated kind m = (k : LedgerKey) → stated_at kind (get m k) ≡ total (counted (view m) kind k) m

-- ---- lines of offers

-- a line that exists carries AUTHORIZED (1) or AUTHORIZED_TO_MAINTAIN_LIABILITIES (2); what isn't a line has no flags
abbrev pub IsAuthorized : Option TrustLineEntry → Type 0
IsAuthorized None = Unit {0}
IsAuthorized (Some line) = line.flags % 4 ≢ 0

-- where an offer's owner has lines in its assets, these are authorised
abbrev pub AreLinesAuthorized : EntryMap → LedgerEntryBody → Type 0
AreLinesAuthorized m (body.Offer offer) =
    All (λ k. IsAuthorized (line_of (get m k)))
    (keys_in (holder offer.seller_id offer.selling) ++ keys_in (holder offer.seller_id offer.buying))
AreLinesAuthorized m other = Unit {0}

-- ---- legal states

-- The clauses are in the order in which an image is judged.
pub record IsLegal (h : LedgerHeader) (m : EntryMap) : Type 0 where
  -- the header by itself, and each entry by itself and under its own key
  pub header : IsHeaderInRange h
  pub keyed : EachEntry (λ k e. key_of e ≡ k) m
  pub entries : EachEntry (λ k e. IsEntryInRange h.id_pool e) m
  pub authorized : EachEntry (λ k e. AreLinesAuthorized m e.body) m
  -- what entries need exists, and no two offers have the same id
  pub existing : EachEntry (λ k e. All (λ q. get m q ≢ None) (needed_keys (pools_in m) e)) m
  pub offers : AreOffersApart m
  -- liabilities (CAP-0003)
  pub selling : IsAggregated Selling m
  pub buying : IsAggregated Buying m
  -- subentries
  pub subentries : IsAggregated Subentries m
  pub few : EachEntry (λ k e. AreSubentriesFew e.body) m
  -- sponsorship (CAP-0033)
  pub sponsoring : IsAggregated Sponsoring m
  pub sponsored : IsAggregated Sponsored m
  pub fits : EachEntry (λ k e. DoReservesFit e.body) m
  -- pools (CAP-0038)
  pub shares : IsAggregated Shares m
  pub share_lines : IsAggregated ShareLines m
  pub uses : IsAggregated Uses m
  pub filled : EachEntry (λ k e. IsFilledOrEmpty e.body) m
  -- lumens
  pub lumens : (total (held asset.Native) m +ℤ h.fee_pool) ≡ h.total_coins
