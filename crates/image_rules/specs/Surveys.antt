-- What a walk over the entries of a map finds.
use Rattle.std.specs.Prelude.{◌≡◌, ◌≢◌, ◌↔◌, ℤ, Bool, true, false, IsTrue, All, Option, Some, None, IfSome}
use Rattle.std.specs.BTreeSet.{BTreeSet, IsEmpty}
use Rattle.std.specs.FinMap.{get}
use Rattle.ledger_types.specs.declared.asset.Asset.TheVariants as asset
use Rattle.ledger_types.specs.declared.entry.LedgerEntry.{LedgerEntry}
use Rattle.ledger_types.specs.declared.entry.LedgerEntryBody.{LedgerEntryBody}
use Rattle.ledger_types.specs.declared.header.LedgerHeader.{LedgerHeader}
use Rattle.ledger_types.specs.declared.ids.AccountId.{AccountId}
use Rattle.ledger_types.specs.declared.key.LedgerKey.{LedgerKey}
use Rattle.ledger_types.specs.declared.key.LedgerKey.TheVariants as key
use Rattle.entry_map.specs.EntryMap.{EntryMap}
use Rattle.close_rules.specs.entry_sums.Sums.{total, EachEntry}
use Rattle.close_rules.specs.legal_rules.Bounds.{AreSubentriesFew, DoReservesFit, IsFilledOrEmpty}
use Rattle.close_rules.specs.legal_rules.Dated.{IsBodyDated}
use Rattle.close_rules.specs.legal_rules.Legal.{pools_in, AreLinesAuthorized}
use Rattle.close_rules.specs.legal_rules.Needs.{needed_keys}
use Rattle.close_rules.specs.legal_rules.OfferIds.{AreOffersApart}
use Rattle.close_rules.specs.legal_rules.Ranges.{IsEntryInRange}
use Rattle.close_rules.specs.legal_rules.Supply.{held}
use Rattle.close_rules.specs.EntryRules.{AreInRange}
use Rattle.image_rules.specs.declared.aggregates.Aggregate.{Aggregate}
use Rattle.image_rules.specs.declared.survey.Survey.{Survey}
use Rattle.image_rules.specs.Aggregates.{AreCounts, counted_else}
use Rattle.image_rules.specs.Counts.{Adds, count_at}
use Rattle.image_rules.specs.OfferSets.{Brings}
use Rattle.image_rules.specs.Tallies.{tally_in}

-- what the rule of ranges asks of an entry among others
pub record KeepsRanges (h : LedgerHeader) (m : EntryMap) (e : LedgerEntry) : Type 0 where
  pub range : IsEntryInRange h.id_pool e
  pub dated : IsBodyDated h.ledger_version h.ledger_seq h.scp_value.close_time e.body
  pub authorized : AreLinesAuthorized m e.body

-- what it asks of the entry alone
pub record IsAloneInRange (h : LedgerHeader) (e : LedgerEntry) : Type 0 where
  pub range : IsEntryInRange h.id_pool e
  pub dated : IsBodyDated h.ledger_version h.ledger_seq h.scp_value.close_time e.body

-- what an entry needs exists
abbrev pub HasNeeded : EntryMap → LedgerEntry → Type 0
HasNeeded m e = All (λ q. get m q ≢ None) (needed_keys (pools_in m) e)

-- an account that is known exists
abbrev pub IsKnown : EntryMap → Option AccountId → Type 0
IsKnown m known = IfSome known (λ id. get m (key.Account id) ≢ None)

-- an offer's id is new among distinct ones; where they weren't distinct they aren't
abbrev pub AreStillApart : Bool → BTreeSet ℤ → BTreeSet ℤ → LedgerEntryBody → Bool → Type 0
AreStillApart true old new b apart = Brings old new b apart
AreStillApart false old new b apart = apart ≡ false

-- an entry more was walked over
pub record IsWalkedOver (m : EntryMap) (e : LedgerEntry) (old new : Survey) : Type 0 where
  pub owned : IsTrue new.owned ↔ (IsTrue old.owned × HasNeeded m e)
  pub apart : AreStillApart old.apart old.ids new.ids e.body new.apart
  pub few : IsTrue new.few ↔ (IsTrue old.few × AreSubentriesFew e.body)
  pub fitting : IsTrue new.fitting ↔ (IsTrue old.fitting × DoReservesFit e.body)
  pub filled : IsTrue new.filled ↔ (IsTrue old.filled × IsFilledOrEmpty e.body)
  pub known : IsKnown m new.known
  pub tallies : (which : Aggregate) → Adds (tally_in old.tallies which) (tally_in new.tallies which)
      (λ k. counted_else (pools_in m) which k e)

-- nothing was walked over
pub record IsEmptySurvey (s : Survey) : Type 0 where
  pub owned : IsTrue s.owned
  pub apart : IsTrue s.apart
  pub few : IsTrue s.few
  pub fitting : IsTrue s.fitting
  pub filled : IsTrue s.filled
  pub ids : IsEmpty s.ids
  pub known : s.known ≡ None
  pub tallies : (which : Aggregate) (k : LedgerKey) → count_at (tally_in s.tallies which) k ≡ 0

-- all entries were walked over, and each is in its ranges
pub record IsSurvey (h : LedgerHeader) (m : EntryMap) (s : Survey) (sum : ℤ) : Type 0 where
  pub ranges : AreInRange h m
  pub owned : IsTrue s.owned ↔ EachEntry (λ k e. HasNeeded m e) m
  pub apart : IsTrue s.apart ↔ AreOffersApart m
  pub few : IsTrue s.few ↔ EachEntry (λ k e. AreSubentriesFew e.body) m
  pub fitting : IsTrue s.fitting ↔ EachEntry (λ k e. DoReservesFit e.body) m
  pub filled : IsTrue s.filled ↔ EachEntry (λ k e. IsFilledOrEmpty e.body) m
  pub lumens : sum ≡ total (held asset.Native) m
  pub tallies : (which : Aggregate) → AreCounts which m (tally_in s.tallies which)

-- a survey, or some entry isn't in its ranges
abbrev pub Surveys : LedgerHeader → EntryMap → Option (Survey × ℤ) → Type 0
Surveys h m None = AreInRange h m → ⊥
Surveys h m (Some found) = IsSurvey h m found.0 found.1
