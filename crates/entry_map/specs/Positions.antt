-- The positions of offers: by their pair, and in the book of a pair by exact price and id.
use Rattle.std.specs.Prelude.{◌≤◌, ℕ, ℤ, pos, ◌+◌, ◌*◌, ◌/◌, unsigned_abs, nat_eq, replicate, true, false}
use Rattle.std.specs.Prelude.{Option, Some, None, if◌then◌else◌}
use Rattle.ledger_types.specs.declared.asset.Asset.{Asset}
use Rattle.ledger_types.specs.declared.ids.AccountId.{AccountId}
use Rattle.ledger_types.specs.declared.price.Price.{Price}
use Rattle.ledger_types.specs.declared.offer.OfferEntry.{OfferEntry}
use Rattle.ledger_types.specs.declared.key.LedgerKey.{LedgerKey}
use Rattle.ledger_types.specs.declared.key.LedgerKey.TheVariants as key
use Rattle.entry_map.specs.declared.position.BookPosition.{BookPosition}
use Rattle.entry_map.specs.declared.position.OfferTerms.{OfferTerms}

-- a price whose denominator fits 32 bits
abbrev pub IsNarrow : Price → Type 0
IsNarrow price = unsigned_abs price.d ≤ 2147483648

abbrev pub IsPositionNarrow : Option (Price × ℤ) → Type 0
IsPositionNarrow None = Unit {0}
IsPositionNarrow (Some (price, id)) = IsNarrow price

-- A whole number in the order of prices: of equal fractions the same, and of a lesser fraction a lesser one, where the
-- product of their denominators is at most 2^62.
abbrev pub rank : Price → ℕ
rank price =
    if nat_eq (unsigned_abs price.d) 0 then 1
    else unsigned_abs price.n * 4611686018427387904 / unsigned_abs price.d + 1

abbrev pub position_of : OfferEntry → BookPosition
position_of offer = record {
  selling = offer.selling;
  buying = offer.buying;
  rank = rank offer.price;
  id = offer.offer_id;
  is_end = false;
  seller = offer.seller_id;
}

-- what of an offer its position doesn't determine
abbrev pub terms_of : OfferEntry → OfferTerms
terms_of offer = record { amount = offer.amount; price = offer.price; flags = offer.flags }

-- the position of an offer with its terms
abbrev pub positioned : OfferEntry → BookPosition × OfferTerms
positioned offer = (position_of offer, terms_of offer)

-- the offer that has a position and these terms
abbrev pub offer_with : BookPosition → OfferTerms → OfferEntry
offer_with position terms = record {
  seller_id = position.seller;
  offer_id = position.id;
  selling = position.selling;
  buying = position.buying;
  amount = terms.amount;
  price = terms.price;
  flags = terms.flags;
}

-- the key under which an offer with a position is
abbrev pub key_at : BookPosition → LedgerKey
key_at position = key.Offer position.seller position.id

abbrev pub no_seller : AccountId
no_seller = record { 0 = replicate 32 0 }

-- the position right before what is after a price and an id in the book of a pair, or before all of it
abbrev pub start_of : (selling buying : Asset) → Option (Price × ℤ) → BookPosition
start_of selling buying None =
    record { selling = selling; buying = buying; rank = 0; id = pos 0; is_end = false; seller = no_seller }
start_of selling buying (Some (price, id)) =
    record { selling = selling; buying = buying; rank = rank price; id = id; is_end = true; seller = no_seller }
