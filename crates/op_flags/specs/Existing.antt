-- Offers that can be removed one after the other.
use Rattle.std.specs.Prelude.{◌≡◌, List, All, Option, Some, None, if◌then◌else◌}
use Rattle.ledger_types.specs.declared.asset.Asset.{Asset}
use Rattle.ledger_types.specs.declared.entry.LedgerEntry.{LedgerEntry}
use Rattle.ledger_types.specs.declared.offer.OfferEntry.{OfferEntry}
use Rattle.entry_map.specs.Book.{AreApart, offer_in, offers_in}
use Rattle.entry_map.specs.EntryMap.{EntryMap}
use Rattle.entry_slots.specs.Offers.{offer_at}
use Rattle.offer_book.specs.Sold.{IsOfferOf}
use Rattle.trade_cross.specs.Cancelling.{map_after_cancelling}
use Rattle.op_flags.specs.Revoking.{trades_in}

abbrev pub IsThere : EntryMap → OfferEntry → Type 0
IsThere m offer = offer_at m offer.seller_id offer.offer_id ≡ Some offer

-- they all exist, with distinct ids
pub record AreExisting (m : EntryMap) (offers : List OfferEntry) : Type 0 where
  pub there : All (IsThere m) offers
  pub apart : AreApart offers

-- entries of offers that all exist, with distinct ids
pub record AreFound (m : EntryMap) (sold : List LedgerEntry) : Type 0 where
  pub each : All (IsOfferOf m) sold
  pub existing : AreExisting m (offers_in sold)

-- an offer is removed, if there is one, and it sells or buys the asset
abbrev pub map_after_offer : Asset → Option OfferEntry → EntryMap → EntryMap
map_after_offer held None m = m
map_after_offer held (Some offer) m = if trades_in held offer then map_after_cancelling offer m else m

abbrev pub map_after_one : Asset → LedgerEntry → EntryMap → EntryMap
map_after_one held entry m = map_after_offer held (offer_in entry.body) m
