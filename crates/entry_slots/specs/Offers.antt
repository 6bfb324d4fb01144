-- Offers among the entries of a ledger.
use Rattle.std.specs.Prelude.{ℤ, Option, option_map}
use Rattle.std.specs.FinMap.{get}
use Rattle.entry_map.specs.ledger_types.declared.ids.AccountId.{AccountId}
use Rattle.entry_map.specs.ledger_types.declared.offer.OfferEntry.{OfferEntry}
use Rattle.entry_map.specs.ledger_types.declared.entry.LedgerEntry.{LedgerEntry}
use Rattle.entry_map.specs.ledger_types.declared.entry.LedgerEntryBody.TheVariants as body
use Rattle.entry_map.specs.ledger_types.declared.key.LedgerKey.TheVariants as key
use Rattle.entry_map.specs.EntryMap.{EntryMap}
pub use Rattle.entry_map.specs.Book.{offer_in, offer_of}
use Rattle.entry_slots.specs.EntryKinds.{EntryKind, slot_in, slot_of, with_entry}
use Rattle.entry_slots.specs.declared.offers.OfferSlot.{OfferSlot}

abbrev pub offer_kind : EntryKind OfferEntry
offer_kind = record { body_of = body.Offer; value_in = offer_in }

-- the seller's offer with this id, if it exists
unfoldable pub offer_at : EntryMap → AccountId → ℤ → Option OfferEntry
offer_at m seller_id offer_id = offer_of (get m (key.Offer seller_id offer_id))

-- ---- entries, taken apart

abbrev pub offer_slot : LedgerEntry → OfferEntry → OfferSlot
offer_slot entry offer =
    record { last_modified_ledger_seq = entry.last_modified_ledger_seq; offer = offer; ext = entry.ext }

-- the parts of an entry, where it is that of an offer
abbrev pub offer_slot_in : LedgerEntry → Option OfferSlot
offer_slot_in entry = slot_in offer_kind offer_slot entry

abbrev pub offer_slot_at : EntryMap → AccountId → ℤ → Option OfferSlot
offer_slot_at m seller_id offer_id = slot_of offer_kind offer_slot (get m (key.Offer seller_id offer_id))

abbrev pub offer_of_slot : Option OfferSlot → Option OfferEntry
offer_of_slot slot = option_map (λ s. s.offer) slot

abbrev pub entry_of_offer : OfferSlot → LedgerEntry
entry_of_offer slot =
    record { last_modified_ledger_seq = slot.last_modified_ledger_seq; body = body.Offer slot.offer; ext = slot.ext }

-- ---- changes

-- the map, in which the seller's offer with this id is changed; the rest of its entry stays
unfoldable pub with_offer : EntryMap → AccountId → ℤ → (OfferEntry → OfferEntry) → EntryMap
with_offer m seller_id offer_id change = with_entry offer_kind m (key.Offer seller_id offer_id) change
