-- The first rule of entries that is broken.
use Rattle.existence_laws.proofs.Prelude as prelude
use prelude.{◌≢◌, inl, inr, pos, List, [], ◌∷◌, Option, Some, None, All, IfSome, refl, sym, ap, ◌∙◌, ◌≡◌, subst, ◌+◌}
use prelude.{◌%◌, ◌++◌, true, false, ℤ, ◌+ℤ◌, ◌≤ℤ◌, if◌then◌else◌, is_eq, int_cmp, get, TrustLineEntry, LedgerHeader}
use prelude.{LedgerEntryBody, key_of, EntryMap, IsKeyed, num_sponsoring, total, EachEntry, IsEntryInRange, ImageRule}
use prelude.{AreInRange, AreOwned, AreLiable, AreSubentriesCounted, AreSponsorsCounted, ArePoolsCounted}
use prelude.{AreLumensCounted, Keeps, entry_rules, IsFirstBroken}
use Rattle.close_laws.specs.ledger_types.declared.asset.Asset.TheVariants as asset
use Rattle.close_laws.specs.ledger_types.declared.entry.LedgerEntryBody.TheVariants as body
use Rattle.close_laws.specs.entry_slots.Lines.{line_of}
use Rattle.replay.proofs.entry_sums_proofs.Summing.{total_none}
use Rattle.close_laws.specs.legal_rules.Aggregates.{counted, stated, stated_at}
use Rattle.close_laws.specs.legal_rules.Bounds.{AreSubentriesFew, DoReservesFit, IsFilledOrEmpty}
use Rattle.close_laws.specs.legal_rules.Dated.{IsBodyDated}
use Rattle.close_laws.specs.legal_rules.Legal.{view, pools_in, IsAggregated, IsAuthorized, AreLinesAuthorized}
use Rattle.close_laws.specs.legal_rules.Needs.{keys_in, needed_keys}
use Rattle.close_laws.specs.legal_rules.OfferIds.{offer_with_in, offer_with, AreOffersApart}
use Rattle.close_laws.specs.legal_rules.Supply.{held}
use Rattle.close_laws.specs.legal_rules.Trades.{holder}
use Rattle.close_laws.specs.close_rules.declared.image_fault.ImageRule.TheVariants as rule
use Rattle.replay.specs.image_rules.declared.aggregates.Aggregate.{Aggregate}
use Rattle.replay.specs.image_rules.declared.aggregates.Aggregate.TheVariants as aggregate
use Rattle.replay.specs.image_rules.Aggregates.{kind_of}
use Rattle.replay.proofs.image_rules_proofs.Aggregated.{IsRight, keyed_each, aggregated_of_right}
use Rattle.existence_laws.proofs.Decided.{Decided, decided_as, both, either, opposite, below, below_int, same_number}
use Rattle.existence_laws.proofs.Decided.{all_three, same_int, above_none, each}
use Rattle.existence_laws.proofs.Entries.{each_entry, exists}
use Rattle.existence_laws.proofs.Ranges.{in_range, body_dated}
use Rattle.close_laws.proofs.ledger_types_proofs.Arithmetic.{int_cmp_equal, zero_at_most_one}

-- ---- entries by themselves

few : (b : LedgerEntryBody) → Decided (AreSubentriesFew b)
few (body.Account account) = below account.num_sub_entries 1000
few other = inl tt

fitting : (b : LedgerEntryBody) → Decided (DoReservesFit b)
fitting (body.Account account) = below (account.num_sub_entries + num_sponsoring account) 4294967295
fitting other = inl tt

filled : (b : LedgerEntryBody) → Decided (IsFilledOrEmpty b)
filled (body.LiquidityPool p) =
    either (all_three (above_none p.reserve_a) (above_none p.reserve_b) (above_none p.total_pool_shares))
    (all_three (same_int p.reserve_a (pos 0)) (same_int p.reserve_b (pos 0)) (same_int p.total_pool_shares (pos 0)))
filled other = inl tt

-- ---- offers

authorized_line : (found : Option TrustLineEntry) → Decided (IsAuthorized found)
authorized_line None = inl tt
authorized_line (Some held) = opposite (same_number (held.flags % 4) 0)

authorized : (m : EntryMap) (b : LedgerEntryBody) → Decided (AreLinesAuthorized m b)
authorized m (body.Offer offer) =
    each (λ k. IsAuthorized (line_of (get m k)))
    (keys_in (holder offer.seller_id offer.selling) ++ keys_in (holder offer.seller_id offer.buying))
    (λ k. authorized_line (line_of (get m k)))
authorized m other = inl tt

-- no offer but one has the id of this one
abbrev IsApart : EntryMap → LedgerEntryBody → Type 0
IsApart m (body.Offer offer) = total (offer_with offer.offer_id) m ≤ℤ pos 1
IsApart m other = Unit {0}

one_apart : (m : EntryMap) (b : LedgerEntryBody) → Decided (IsApart m b)
one_apart m (body.Offer offer) = below_int (total (offer_with offer.offer_id) m) (pos 1)
one_apart m other = inl tt

-- an id that more than one offer had would be that of an offer which isn't apart
no_id : (m : EntryMap) (id : ℤ) (b : LedgerEntryBody) → (total (offer_with id) m ≤ℤ pos 1 → ⊥) → IsApart m b
    → offer_with_in id b ≡ pos 0
no_id m id (body.Offer offer) many apart = elim (is_eq (int_cmp offer.offer_id id)) as
    (λ t. is_eq (int_cmp offer.offer_id id) ≡ t → (if t then pos 1 else pos 0) ≡ pos 0) [
      | true ↦ λ same. absurd (many (subst (λ (x : ℤ). total (offer_with x) m ≤ℤ pos 1)
          (int_cmp_equal offer.offer_id id same) apart))
      | false ↦ λ other. refl
    ] refl
no_id m id other many apart = refl

all_apart : (m : EntryMap) → EachEntry (λ k e. IsApart m e.body) m → AreOffersApart m
all_apart m apart id = elim (below_int (total (offer_with id) m) (pos 1)) [
  | inl few ↦ few
  | inr many ↦ zero_at_most_one (total (offer_with id) m)
      (total_none (offer_with id) m (λ k e there. no_id m id e.body many (apart k e there)))
]

each_apart : (m : EntryMap) (b : LedgerEntryBody) → AreOffersApart m → IsApart m b
each_apart m (body.Offer offer) apart = apart offer.offer_id
each_apart m other apart = tt

offers_apart : (m : EntryMap) → Decided (AreOffersApart m)
offers_apart m =
    decided_as (all_apart m) (λ apart k e there. each_apart m e.body apart)
    (each_entry (λ k e. IsApart m e.body) m (λ k e there. one_apart m e.body))

-- ---- each rule

module _ (h : LedgerHeader) (m : EntryMap) (keyed : IsKeyed m) where
  entries_in_range : Decided (AreInRange h m)
  entries_in_range =
      decided_as (λ h. record { entries = h.0; dated = h.1.0; authorized = h.1.1 })
      (λ r. (r.entries, (r.dated, r.authorized)))
      (both (each_entry (λ k e. IsEntryInRange h.id_pool e) m (λ k e there. in_range h.id_pool e))
      (both (each_entry (λ k e. IsBodyDated h.ledger_version h.ledger_seq h.scp_value.close_time e.body) m
      (λ k e there. body_dated h.ledger_version h.ledger_seq h.scp_value.close_time e.body))
      (each_entry (λ k e. AreLinesAuthorized m e.body) m (λ k e there. authorized m e.body))))

  owned : Decided (AreOwned m)
  owned =
      decided_as (λ both. record { existing = both.0; offers = both.1 }) (λ r. (r.existing, r.offers))
      (both (each_entry (λ k e. All (λ q. get m q ≢ None) (needed_keys (pools_in m) e)) m
      (λ k e there. each (λ q. get m q ≢ None) (needed_keys (pools_in m) e) (λ q. exists m q))) (offers_apart m))

  -- where owners, sponsors and holders exist, aggregates are decided by the entries that state them
  aggregated : AreOwned m → (which : Aggregate) → Decided (IsAggregated (kind_of which) m)
  aggregated exist which =
      decided_as (λ right. aggregated_of_right which m exist (λ k e there. (keyed, right k e there)))
      (λ (all : IsAggregated (kind_of which) m) k e there.
      sym (ap (stated_at (kind_of which)) (ap (get m) (keyed_each m keyed k e there) ∙ there)) ∙ all (key_of e))
      (each_entry (λ k e. IsRight which m e) m
      (λ k e there. same_int (stated (kind_of which) e.body)
      (total (counted (view m) (kind_of which) (key_of e)) m)))

  liable : AreOwned m → Decided (AreLiable m)
  liable exist =
      decided_as (λ both. record { selling = both.0; buying = both.1 }) (λ r. (r.selling, r.buying))
      (both (aggregated exist aggregate.Selling) (aggregated exist aggregate.Buying))

  subentries : AreOwned m → Decided (AreSubentriesCounted m)
  subentries exist =
      decided_as (λ h. record { aggregated = h.0; few = h.1 }) (λ r. (r.aggregated, r.few))
      (both (aggregated exist aggregate.Subentries)
      (each_entry (λ k e. AreSubentriesFew e.body) m (λ k e there. few e.body)))

  sponsors : AreOwned m → Decided (AreSponsorsCounted m)
  sponsors exist =
      decided_as (λ h. record { sponsoring = h.0; sponsored = h.1.0; fits = h.1.1 })
      (λ r. (r.sponsoring, (r.sponsored, r.fits)))
      (both (aggregated exist aggregate.Sponsoring) (both (aggregated exist aggregate.Sponsored)
      (each_entry (λ k e. DoReservesFit e.body) m (λ k e there. fitting e.body))))

  pools : AreOwned m → Decided (ArePoolsCounted m)
  pools exist =
      decided_as (λ h. record { shares = h.0; share_lines = h.1.0; uses = h.1.1.0; filled = h.1.1.1 })
      (λ r. (r.shares, (r.share_lines, (r.uses, r.filled))))
      (both (aggregated exist aggregate.Shares)
      (both (aggregated exist aggregate.ShareLines) (both (aggregated exist aggregate.Uses)
      (each_entry (λ k e. IsFilledOrEmpty e.body) m (λ k e there. filled e.body)))))

  lumens : Decided (AreLumensCounted h m)
  lumens = same_int (total (held asset.Native) m +ℤ h.fee_pool) h.total_coins

-- ---- the first that is broken

abbrev pub IsOfEntries : ImageRule → Type 0
IsOfEntries rule.Header = ⊥
IsOfEntries rule.Version = ⊥
IsOfEntries rule.Fields = ⊥
IsOfEntries rule.Bucket = ⊥
IsOfEntries rule.Marks = ⊥
IsOfEntries rule.ListHash = ⊥
IsOfEntries other = Unit {0}

-- which one it is, or that there is none
abbrev pub FirstOf : LedgerHeader → EntryMap → List ImageRule → Type 0
FirstOf h m rules = (broken : Option ImageRule) × IsFirstBroken h m rules broken × IfSome broken IsOfEntries

after_kept : (h : LedgerHeader) (m : EntryMap) (first : ImageRule) (rules : List ImageRule) → Keeps h m first
    → FirstOf h m rules → FirstOf h m (first ∷ rules)
after_kept h m first rules kept (None, is, own) = (None, (kept, is), own)
after_kept h m first rules kept (Some broken, is, own) = (Some broken, inr (kept, is), own)

first_or : (h : LedgerHeader) (m : EntryMap) (first : ImageRule) (rules : List ImageRule) → IsOfEntries first
    → Decided (Keeps h m first) → (Keeps h m first → FirstOf h m rules) → FirstOf h m (first ∷ rules)
first_or h m first rules own (inl kept) later = after_kept h m first rules kept (later kept)
first_or h m first rules own (inr fails) later = (Some first, inl (fails, refl), own)

abbrev from_lumens : List ImageRule
from_lumens = rule.Lumens ∷ []

abbrev from_pools : List ImageRule
from_pools = rule.Pools ∷ from_lumens

abbrev from_sponsorship : List ImageRule
from_sponsorship = rule.Sponsorship ∷ from_pools

abbrev from_subentries : List ImageRule
from_subentries = rule.Subentries ∷ from_sponsorship

abbrev from_liabilities : List ImageRule
from_liabilities = rule.Liabilities ∷ from_subentries

abbrev from_owner : List ImageRule
from_owner = rule.Owner ∷ from_liabilities

pub first_of : (h : LedgerHeader) (m : EntryMap) → IsKeyed m → FirstOf h m entry_rules
first_of h m keyed =
    first_or h m rule.Entry from_owner tt (entries_in_range h m keyed) (λ in_range.
    first_or h m rule.Owner from_liabilities tt (owned h m keyed) (λ exist.
    first_or h m rule.Liabilities from_subentries tt (liable h m keyed exist) (λ bound.
    first_or h m rule.Subentries from_sponsorship tt (subentries h m keyed exist) (λ few.
    first_or h m rule.Sponsorship from_pools tt (sponsors h m keyed exist) (λ paid.
    first_or h m rule.Pools from_lumens tt (pools h m keyed exist) (λ used.
    first_or h m rule.Lumens [] tt (lumens h m keyed) (λ all. (None, refl, tt))))))))
