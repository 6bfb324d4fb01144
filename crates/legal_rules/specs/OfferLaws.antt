-- That offers which are added, changed and removed keep a state legal, with what they bind.
use Rattle.std.specs.Prelude.{◌≡◌, ℕ, ◌+◌, ◌*◌, ◌^◌, ◌≤◌, ℤ, pos, ◌≤ℤ◌, Some, None, Ok}
use Rattle.std.specs.FinMap.{get}
use Rattle.hash_ids.specs.ledger_types.declared.offer.OfferEntry.{OfferEntry}
use Rattle.hash_ids.specs.ledger_types.declared.header.LedgerHeader.{LedgerHeader}
use Rattle.hash_ids.specs.ledger_types.declared.entry.LedgerEntry.{LedgerEntry}
use Rattle.hash_ids.specs.ledger_types.declared.entry.LedgerEntryBody.TheVariants as body
use Rattle.hash_ids.specs.ledger_types.declared.key.LedgerKey.{LedgerKey}
use Rattle.hash_ids.specs.ledger_types.Keys.{key_of}
use Rattle.entry_sums.specs.entry_map.EntryMap.{EntryMap}
use Rattle.sponsor_laws.specs.entry_slots.Accounts.{HasAccount}
use Rattle.sponsor_laws.specs.entry_slots.Offers.{offer_at, with_offer}
use Rattle.sponsor_laws.specs.sponsor_rules.declared.context.Ctx.{Ctx}
use Rattle.sponsor_laws.specs.sponsor_rules.Adding.{map_after_adding}
use Rattle.legal_rules.specs.OfferLiabilities.{bound_of}
use Rattle.legal_rules.specs.EntryKeys.{for_key}
use Rattle.legal_rules.specs.Trades.{holder}
use Rattle.legal_rules.specs.Aggregates.{Selling, Buying, View}
use Rattle.legal_rules.specs.Sponsorships.{IsSponsorReady}
use Rattle.legal_rules.specs.Ranges.{IsOfferInRange}
use Rattle.legal_rules.specs.Binding.{acquiring, releasing, CanBindBoth}
use Rattle.legal_rules.specs.Legal.{IsLegal}
use Rattle.legal_rules.specs.Owing.{Owed, plus, less, IsLegalOwing}

-- ---- within a transaction

-- what an offer counts beside its reserve
abbrev pub trade_aggregates : OfferEntry → Owed
trade_aggregates o Selling k = for_key k (holder o.seller_id o.selling) (pos (bound_of o).wheat)
trade_aggregates o Buying k = for_key k (holder o.seller_id o.buying) (pos (bound_of o).sheep)
trade_aggregates o kind k = pos 0

-- Liabilities are acquired: what the offer counts isn't owed any more.
abbrev pub LiabilitiesAcquired : Type 0
LiabilitiesAcquired =
    (v : View) (id_pool : ℕ) (owed : Owed) (sum : ℤ) (o : OfferEntry) (m : EntryMap) → IsLegalOwing v id_pool owed sum m
    → CanBindBoth o (pos (bound_of o).wheat) (pos (bound_of o).sheep) m
    → IsLegalOwing v id_pool (plus owed (less (trade_aggregates o))) sum (acquiring o m)

-- no aggregate of liabilities owes anything
pub record AreTradesSettled (owed : Owed) : Type 0 where
  pub selling : (k : LedgerKey) → owed Selling k ≤ℤ pos 0
  pub buying : (k : LedgerKey) → owed Buying k ≤ℤ pos 0

-- The liabilities of an offer that exists can always be released: then what it counts is owed. The offer still exists.
abbrev pub LiabilitiesReleased : Type 0
LiabilitiesReleased =
    (v : View) (id_pool : ℕ) (owed : Owed) (sum : ℤ) (o : OfferEntry) (m : EntryMap) → IsLegalOwing v id_pool owed sum m
    → AreTradesSettled owed → offer_at m o.seller_id o.offer_id ≡ Some o
    → IsLegalOwing v id_pool (plus owed (trade_aggregates o)) sum (releasing o m)
    × (offer_at (releasing o m) o.seller_id o.offer_id ≡ Some o)

-- An offer is changed: so much more is owed as it counts more.
abbrev pub OfferChanged : Type 0
OfferChanged =
    (v : View) (id_pool : ℕ) (owed : Owed) (sum : ℤ) (old new : OfferEntry) (m : EntryMap)
    → IsLegalOwing v id_pool owed sum m → offer_at m old.seller_id old.offer_id ≡ Some old
    → new.seller_id ≡ old.seller_id → new.offer_id ≡ old.offer_id → IsOfferInRange id_pool new
    → IsLegalOwing v id_pool (plus owed (plus (less (trade_aggregates old)) (trade_aggregates new))) sum
    (with_offer m old.seller_id old.offer_id (λ was. new))

-- ---- complete changes

abbrev pub new_offer : ℕ → OfferEntry → LedgerEntry
new_offer seq offer = record { last_modified_ledger_seq = seq; body = body.Offer offer; ext = None }

abbrev pub with_next_id : LedgerHeader → LedgerHeader
with_next_id h = record h { id_pool = h.id_pool + 1 }

-- an id more can be drawn in this ledger
abbrev pub IsIdLeft : LedgerHeader → Type 0
IsIdLeft h = h.id_pool + 1 ≤ h.ledger_seq * 2 ^ 32

-- an offer with the next id is added, and what it binds is bound
abbrev pub NewOffersKeep : Type 0
NewOffersKeep =
    (h : LedgerHeader) (ctx : Ctx) (seq : ℕ) (offer : OfferEntry) (old m : EntryMap) → IsLegal h old
    → offer.offer_id ≡ pos (h.id_pool + 1) → IsOfferInRange (h.id_pool + 1) offer → IsIdLeft h
    → get old (key_of (new_offer seq offer)) ≡ None → HasAccount old offer.seller_id
    → IsSponsorReady ctx offer.seller_id old → map_after_adding ctx offer.seller_id (new_offer seq offer) old ≡ Ok m
    → CanBindBoth offer (pos (bound_of offer).wheat) (pos (bound_of offer).sheep) m
    → IsLegal (with_next_id h) (acquiring offer m)

-- what an offer binds is released, it is changed, and what it then binds is bound
abbrev pub ChangedOffersKeep : Type 0
ChangedOffersKeep =
    (h : LedgerHeader) (old new : OfferEntry) (m : EntryMap) → IsLegal h m
    → offer_at m old.seller_id old.offer_id ≡ Some old → new.seller_id ≡ old.seller_id → new.offer_id ≡ old.offer_id
    → IsOfferInRange h.id_pool new
    → CanBindBoth new (pos (bound_of new).wheat) (pos (bound_of new).sheep)
    (with_offer (releasing old m) old.seller_id old.offer_id (λ was. new))
    → IsLegal h (acquiring new (with_offer (releasing old m) old.seller_id old.offer_id (λ was. new)))
