-- An offer that is removed without a trade (manageOffer and removeOffersByAccountAndAsset in stellar-core; CAP-0003).
use Rattle.std.specs.Prelude.{◌≡◌, ℕ, ℤ, Some}
use Rattle.ledger_types.specs.declared.offer.OfferEntry.{OfferEntry}
use Rattle.entry_map.specs.EntryMap.{EntryMap}
use Rattle.entry_slots.specs.Offers.{offer_at}
use Rattle.sponsor_rules.specs.Removing.{map_after_removing}
use Rattle.legal_rules.specs.Binding.{releasing}
use Rattle.legal_rules.specs.Aggregates.{View}
use Rattle.legal_rules.specs.OneMore.{IsOwedRightly}
use Rattle.legal_rules.specs.Owing.{Owed, IsLegalOwing}
use Rattle.trade_cross.specs.Crossing.{offer_key}

-- it lets go of what it binds, and its reserve is freed
abbrev pub map_after_cancelling : OfferEntry → EntryMap → EntryMap
map_after_cancelling o m = map_after_removing (offer_key o) (releasing o m)

-- An offer that exists is removed, and what is left is as legal as before.
abbrev pub CancelledOffersKeep : Type 0
CancelledOffersKeep =
    (v : View) (id_pool base : ℕ) (owed : Owed) (sum : ℤ) (o : OfferEntry) (m : EntryMap)
    → IsLegalOwing v id_pool owed sum m → IsOwedRightly owed → offer_at m o.seller_id o.offer_id ≡ Some o
    → IsLegalOwing v id_pool owed sum (map_after_cancelling o m)
