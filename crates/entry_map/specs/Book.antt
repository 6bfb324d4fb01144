-- The book of a pair of assets: the offers that sell the one for the other, by their exact price and then by their id
-- (loadBestOffers and isBetterOffer in stellar-core).
use Rattle.std.specs.Prelude.{◌≢◌, ◌*◌, ℤ, unsigned_abs, Bool, ◌&&◌}
use Rattle.std.specs.Prelude.{List, [], ◌∷◌, All, Option, Some, None, if◌then◌else◌}
use Rattle.std.specs.List.{filter, filter_map}
use Rattle.std.specs.declared.cmp.Ordering.{Ordering}
use Rattle.std.specs.Ordering.{is_lt, is_eq, nat_cmp, int_cmp, ordering_then}
use Rattle.std.specs.FinMap.{values}
use Rattle.ledger_types.specs.declared.asset.Asset.{Asset}
use Rattle.ledger_types.specs.declared.price.Price.{Price}
use Rattle.ledger_types.specs.declared.offer.OfferEntry.{OfferEntry}
use Rattle.ledger_types.specs.declared.entry.LedgerEntry.{LedgerEntry}
use Rattle.ledger_types.specs.declared.entry.LedgerEntryBody.{LedgerEntryBody}
use Rattle.ledger_types.specs.declared.entry.LedgerEntryBody.TheVariants as body
use Rattle.ledger_types.specs.KeyOrder.{asset_cmp}
use Rattle.ledger_types.specs.Prices.{IsPriced}
use Rattle.entry_map.specs.EntryMap.{EntryMap}

-- ---- offers among entries

-- an offer, where the body is one
abbrev pub offer_in : LedgerEntryBody → Option OfferEntry
offer_in (body.Offer offer) = Some offer
offer_in other = None

abbrev pub offer_of : Option LedgerEntry → Option OfferEntry
offer_of None = None
offer_of (Some entry) = offer_in entry.body

abbrev pub offers_in : List LedgerEntry → List OfferEntry
offers_in entries = filter_map (λ e. offer_in e.body) entries

-- the offers of a map, in the order of their keys
abbrev pub offers_of : EntryMap → List OfferEntry
offers_of m = offers_in (values m)

-- ---- the order of a book

-- prices as fractions
abbrev pub price_cmp : Price → Price → Ordering
price_cmp a b = nat_cmp (unsigned_abs a.n * unsigned_abs b.d) (unsigned_abs b.n * unsigned_abs a.d)

-- an offer is after a price and an id
abbrev pub is_after : Price → ℤ → OfferEntry → Bool
is_after price id offer = is_lt (ordering_then (price_cmp price offer.price) (int_cmp id offer.offer_id))

-- an offer goes before another
abbrev pub goes_before : OfferEntry → OfferEntry → Bool
goes_before a b = is_after a.price a.offer_id b

-- an offer at its position among ranked ones
abbrev pub inserted : OfferEntry → List OfferEntry → List OfferEntry
inserted offer [] = offer ∷ []
inserted offer (first ∷ others) =
    if goes_before offer first then offer ∷ first ∷ others else first ∷ inserted offer others

abbrev pub ranked : List OfferEntry → List OfferEntry
ranked [] = []
ranked (offer ∷ others) = inserted offer (ranked others)

-- ---- the book

abbrev pub is_of_pair : (selling buying : Asset) → OfferEntry → Bool
is_of_pair selling buying offer =
    is_eq (asset_cmp offer.selling selling) && is_eq (asset_cmp offer.buying buying)

-- the book of a pair, among some offers
unfoldable pub book_in : (selling buying : Asset) → List OfferEntry → List OfferEntry
book_in selling buying offers = ranked (filter (is_of_pair selling buying) offers)

abbrev pub head : List OfferEntry → Option OfferEntry
head [] = None
head (first ∷ others) = Some first

-- what of a book is after a price and an id; all of it, where none are given
abbrev pub left_after : Option (Price × ℤ) → List OfferEntry → List OfferEntry
left_after None offers = offers
left_after (Some (price, id)) offers = filter (is_after price id) offers

-- the first offer of a book after a price and an id, or at its head
unfoldable pub next_in : (selling buying : Asset) → Option (Price × ℤ) → List OfferEntry → Option OfferEntry
next_in selling buying after offers = head (left_after after (book_in selling buying offers))

abbrev pub next_offer : EntryMap → (selling buying : Asset) → Option (Price × ℤ) → Option OfferEntry
next_offer m selling buying after = next_in selling buying after (offers_of m)

-- ---- what a book needs

abbrev pub IsPositionPriced : Option (Price × ℤ) → Type 0
IsPositionPriced None = Unit {0}
IsPositionPriced (Some (price, id)) = IsPriced price

-- no two offers have the same id
abbrev pub AreApart : List OfferEntry → Type 0
AreApart [] = Unit {0}
AreApart (offer ∷ others) = All (λ other. offer.offer_id ≢ other.offer_id) others × AreApart others

-- offers with prices of parts of at least 1, and with distinct ids
pub record AreSound (offers : List OfferEntry) : Type 0 where
  pub priced : All (λ offer. IsPriced offer.price) offers
  pub apart : AreApart offers

abbrev pub AreOffersSound : EntryMap → Type 0
AreOffersSound m = AreSound (offers_of m)
