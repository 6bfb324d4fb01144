-- A state within a transaction: what aggregates owe, and the supply of one asset at hand.
use Rattle.std.specs.Prelude.{◌≡◌, ℕ, ◌%◌, ℤ, pos, neg_ℤ, ◌+ℤ◌, ◌-ℤ◌, Some, if◌then◌else◌}
use Rattle.hash_ids.specs.ledger_types.declared.ids.Hash.{Hash}
use Rattle.hash_ids.specs.ledger_types.declared.asset.Asset.TheVariants as asset
use Rattle.hash_ids.specs.ledger_types.declared.entry.LedgerEntry.{LedgerEntry}
use Rattle.hash_ids.specs.ledger_types.declared.entry.LedgerEntryBody.{LedgerEntryBody}
use Rattle.hash_ids.specs.ledger_types.declared.entry.LedgerEntryBody.TheVariants as body
use Rattle.hash_ids.specs.ledger_types.declared.key.LedgerKey.{LedgerKey}
use Rattle.hash_ids.specs.ledger_types.Keys.{key_of}
use Rattle.entry_sums.specs.entry_map.EntryMap.{EntryMap}
use Rattle.sponsor_laws.specs.entry_slots.LineExtensions.{line_liabilities}
use Rattle.entry_sums.specs.Sums.{Weight, total, EachEntry}
use Rattle.legal_rules.specs.EntryKeys.{is_key, for_key}
use Rattle.legal_rules.specs.Aggregates.{Kind, Subentries, Sponsoring, Sponsored, Selling, Buying, Shares, ShareLines}
use Rattle.legal_rules.specs.Aggregates.{Uses}
use Rattle.legal_rules.specs.Aggregates.{View, counted, stated}
use Rattle.legal_rules.specs.Supply.{held}
use Rattle.legal_rules.specs.OfferIds.{AreOffersApart}
use Rattle.legal_rules.specs.Bounds.{AreSubentriesFew, DoReservesFit, IsFilledOrEmpty}
use Rattle.legal_rules.specs.Ranges.{IsEntryInRange}
use Rattle.legal_rules.specs.Legal.{view, pools_in}

-- ---- what aggregates owe

-- what is counted in each aggregate and not stated; below 0 where more is stated than is counted
abbrev pub Owed : Type 0
Owed = Kind → LedgerKey → ℤ

abbrev pub nothing_owed : Owed
nothing_owed kind k = pos 0

-- n in one aggregate
abbrev pub in_aggregate : Kind → LedgerKey → ℤ → Owed
in_aggregate Subentries named n Subentries k = for_key k (Some named) n
in_aggregate Sponsoring named n Sponsoring k = for_key k (Some named) n
in_aggregate Sponsored named n Sponsored k = for_key k (Some named) n
in_aggregate Selling named n Selling k = for_key k (Some named) n
in_aggregate Buying named n Buying k = for_key k (Some named) n
in_aggregate Shares named n Shares k = for_key k (Some named) n
in_aggregate ShareLines named n ShareLines k = for_key k (Some named) n
in_aggregate Uses named n Uses k = for_key k (Some named) n
in_aggregate kind named n other k = pos 0

abbrev pub plus : Owed → Owed → Owed
plus owed more kind k = owed kind k +ℤ more kind k

abbrev pub less : Owed → Owed
less owed kind k = neg_ℤ (owed kind k)

-- what is owed in the aggregates that aren't of reserves
abbrev pub beside_reserves : Owed → Owed
beside_reserves owed Subentries k = pos 0
beside_reserves owed Sponsoring k = pos 0
beside_reserves owed Sponsored k = pos 0
beside_reserves owed kind k = owed kind k

-- what an entry counts for the one under a key, less what it states there itself
abbrev pub weight : View → Kind → LedgerKey → Weight
weight view kind k e = counted view kind k e -ℤ (if is_key (key_of e) k then stated kind e.body else pos 0)

-- what aggregates owe once an entry is put
abbrev pub weighed : View → LedgerEntry → Owed
weighed view e kind k = weight view kind k e

-- ---- states

-- a line that carries neither AUTHORIZED (1) nor AUTHORIZED_TO_MAINTAIN_LIABILITIES (2) is bound by no offer
abbrev pub IsBoundRightly : LedgerEntryBody → Type 0
IsBoundRightly (body.TrustLine line) = line.flags % 4 ≡ 0
    → ((line_liabilities line).selling ≡ pos 0) × ((line_liabilities line).buying ≡ pos 0)
IsBoundRightly other = Unit {0}

-- an entry in its range and within the bounds of what is counted
pub record IsEntryLegal (id_pool : ℕ) (e : LedgerEntry) : Type 0 where
  pub range : IsEntryInRange id_pool e
  pub bound : IsBoundRightly e.body
  pub few : AreSubentriesFew e.body
  pub fits : DoReservesFit e.body
  pub filled : IsFilledOrEmpty e.body

-- Legal, but that P holds of each entry, that aggregates may owe, and that the supply of the asset at hand is this.
pub record IsLegalWith (view : View) (P : LedgerEntry → Type 0) (owed : Owed) (sum : ℤ) (m : EntryMap)
    : Type 0 where
  pub params : (id : Hash) → pools_in m id ≡ view.pools id
  pub keyed : EachEntry (λ k e. key_of e ≡ k) m
  pub entries : EachEntry (λ k e. P e) m
  pub offers : AreOffersApart m
  pub aggregates : (kind : Kind) (k : LedgerKey) → total (weight view kind k) m ≡ owed kind k
  pub supply : total (held view.asset) m ≡ sum

-- legal, but for what aggregates owe, and with this supply of the asset at hand
abbrev pub IsLegalOwing : View → (id_pool : ℕ) → Owed → (sum : ℤ) → EntryMap → Type 0
IsLegalOwing view id_pool owed sum m = IsLegalWith view (IsEntryLegal id_pool) owed sum m

-- The entries are those of a legal state, but that nothing is said of the header. Offers have ids up to `id_pool`.
abbrev pub AreEntriesLegal : (id_pool : ℕ) → EntryMap → Type 0
AreEntriesLegal id_pool m = IsLegalOwing (view m) id_pool nothing_owed (total (held asset.Native) m) m
