-- The rules of an image that are of its entries, in the order in which they are judged: what a legal state is, rule by
-- rule.
use Rattle.std.specs.Prelude.{◌≡◌, ◌≢◌, ◌⊎◌, ◌+ℤ◌, List, [], ◌∷◌, All, Option, Some, None}
use Rattle.std.specs.FinMap.{get}
use Rattle.ledger_types.specs.declared.asset.Asset.TheVariants as asset
use Rattle.ledger_types.specs.declared.header.LedgerHeader.{LedgerHeader}
use Rattle.bucket_levels.specs.entry_map.EntryMap.{EntryMap}
use Rattle.entry_changes.specs.entry_sums.Sums.{total, EachEntry}
use Rattle.tx_apply.specs.legal_rules.Aggregates.{Subentries, Sponsoring, Sponsored, Selling, Buying, Shares}
use Rattle.tx_apply.specs.legal_rules.Aggregates.{ShareLines}
use Rattle.tx_apply.specs.legal_rules.Aggregates.{Uses}
use Rattle.tx_apply.specs.legal_rules.Supply.{held}
use Rattle.tx_apply.specs.legal_rules.OfferIds.{AreOffersApart}
use Rattle.tx_apply.specs.legal_rules.Needs.{needed_keys}
use Rattle.tx_apply.specs.legal_rules.Bounds.{AreSubentriesFew, DoReservesFit, IsFilledOrEmpty}
use Rattle.tx_apply.specs.legal_rules.Ranges.{IsEntryInRange}
use Rattle.tx_apply.specs.legal_rules.Dated.{AreDated}
use Rattle.tx_apply.specs.legal_rules.Legal.{pools_in, IsAggregated, AreLinesAuthorized}
use Rattle.close_rules.specs.declared.image_fault.ImageRule.{ImageRule}
use Rattle.close_rules.specs.declared.image_fault.ImageRule.TheVariants as rule

-- 7: each entry by itself, and the lines of offers are authorised
pub record AreInRange (h : LedgerHeader) (m : EntryMap) : Type 0 where
  pub entries : EachEntry (λ k e. IsEntryInRange h.id_pool e) m
  pub dated : AreDated h m
  pub authorized : EachEntry (λ k e. AreLinesAuthorized m e.body) m

-- 8: owners, sponsors, pools and lines exist
pub record AreOwned (m : EntryMap) : Type 0 where
  pub existing : EachEntry (λ k e. All (λ q. get m q ≢ None) (needed_keys (pools_in m) e)) m
  pub offers : AreOffersApart m

-- 9: liabilities are those of the offers; that they lie within balance, room and limit is for the seventh
pub record AreLiable (m : EntryMap) : Type 0 where
  pub selling : IsAggregated Selling m
  pub buying : IsAggregated Buying m

-- 10: the subentries of each account are counted, and few
pub record AreSubentriesCounted (m : EntryMap) : Type 0 where
  pub aggregated : IsAggregated Subentries m
  pub few : EachEntry (λ k e. AreSubentriesFew e.body) m

-- 11: reserves that one account pays for another are counted with both of them, and fit 32 bits beside the subentries
pub record AreSponsorsCounted (m : EntryMap) : Type 0 where
  pub sponsoring : IsAggregated Sponsoring m
  pub sponsored : IsAggregated Sponsored m
  pub fits : EachEntry (λ k e. DoReservesFit e.body) m

-- 12: shares, lines of shares and uses of lines are counted, and each pool is filled or empty
pub record ArePoolsCounted (m : EntryMap) : Type 0 where
  pub shares : IsAggregated Shares m
  pub share_lines : IsAggregated ShareLines m
  pub uses : IsAggregated Uses m
  pub filled : EachEntry (λ k e. IsFilledOrEmpty e.body) m

-- 13: the lumens of all entries and those of the fee pool are all that the header has
abbrev pub AreLumensCounted : LedgerHeader → EntryMap → Type 0
AreLumensCounted h m = (total (held asset.Native) m +ℤ h.fee_pool) ≡ h.total_coins

-- the rules of entries; those of the header and the files say nothing here
abbrev pub Keeps : LedgerHeader → EntryMap → ImageRule → Type 0
Keeps h m rule.Entry = AreInRange h m
Keeps h m rule.Owner = AreOwned m
Keeps h m rule.Liabilities = AreLiable m
Keeps h m rule.Subentries = AreSubentriesCounted m
Keeps h m rule.Sponsorship = AreSponsorsCounted m
Keeps h m rule.Pools = ArePoolsCounted m
Keeps h m rule.Lumens = AreLumensCounted h m
Keeps h m other = Unit {0}

abbrev pub entry_rules : List ImageRule
entry_rules =
    rule.Entry ∷ rule.Owner ∷ rule.Liabilities ∷ rule.Subentries ∷ rule.Sponsorship ∷ rule.Pools ∷ rule.Lumens ∷ []

-- the first of these rules that is broken, or none where all are kept
abbrev pub IsFirstBroken : LedgerHeader → EntryMap → List ImageRule → Option ImageRule → Type 0
IsFirstBroken h m [] broken = broken ≡ None
IsFirstBroken h m (first ∷ rules) None = Keeps h m first × IsFirstBroken h m rules None
IsFirstBroken h m (first ∷ rules) (Some broken) =
    ((Keeps h m first → ⊥) × (broken ≡ first)) ⊎ (Keeps h m first × IsFirstBroken h m rules (Some broken))
