-- What crossing one offer yields, by what its owner can give and take, and the changes that it makes holder by holder.
use Rattle.std.specs.Prelude.{◌≡◌, ℕ, ◌-◌, zero, suc, ℤ, pos, neg_ℤ, ◌-ℤ◌, ◌≤ℤ◌, min, unsigned_abs, Bool}
use Rattle.std.specs.Prelude.{if◌then◌else◌}
use Rattle.ledger_types.specs.declared.price.Liabilities.{Liabilities}
use Rattle.ledger_types.specs.declared.offer.OfferEntry.{OfferEntry}
use Rattle.entry_map.specs.EntryMap.{EntryMap}
use Rattle.entry_slots.specs.Offers.{with_offer}
use Rattle.sponsor_rules.specs.Removing.{map_after_removing}
use Rattle.offer_exchange.specs.declared.rounding.Rounding.{Rounding}
use Rattle.offer_exchange.specs.Exchange.{Amounts, Bounds, adjusted, exchanged, wheat_stays}
use Rattle.offer_exchange.specs.Calls.{bound_by}
use Rattle.legal_rules.specs.OfferLiabilities.{bound_of}
use Rattle.trade_cross.specs.declared.holding.Change.{Change}
use Rattle.trade_cross.specs.declared.location.Location.{Location}
use Rattle.trade_cross.specs.declared.location.Location.TheVariants as location
use Rattle.trade_cross.specs.declared.plan.Left.{Left as LeftOfCall}
use Rattle.trade_cross.specs.declared.plan.Plan.{Plan}
use Rattle.trade_cross.specs.declared.plan.Sides.{Sides}
use Rattle.trade_cross.specs.Crossing.{Left, with_amount, offer_key, seller_gives_at, seller_takes_at}
use Rattle.trade_cross.specs.Locations.{location_key, changing}

-- ---- the taker's bounds

pub record AreLeft (left : LeftOfCall) : Type 0 where
  pub sheep_send : pos 0 ≤ℤ left.sheep_send
  pub wheat_receive : pos 0 ≤ℤ left.wheat_receive

abbrev pub left_in : LeftOfCall → Left
left_in left =
    record { sheep_send = unsigned_abs left.sheep_send; wheat_receive = unsigned_abs left.wheat_receive }

-- ---- amounts

abbrev pub price_n : OfferEntry → ℕ
price_n o = unsigned_abs o.price.n

abbrev pub price_d : OfferEntry → ℕ
price_d o = unsigned_abs o.price.d

-- the bounds within which an offer meets a taker, where its owner can give and take so much
abbrev pub bounds_at : OfferEntry → (gives takes : ℕ) → Left → Bounds
bounds_at o gives takes left =
    record {
      wheat_send = adjusted (price_n o) (price_d o) (min (unsigned_abs o.amount) gives) takes;
      wheat_receive = left.wheat_receive;
      sheep_send = left.sheep_send;
      sheep_receive = takes;
    }

-- ---- calls

abbrev pub bounds_of : OfferEntry → Sides → LeftOfCall → Bounds
bounds_of o sides left = bounds_at o (unsigned_abs sides.gives) (unsigned_abs sides.takes) (left_in left)

abbrev pub amounts_of : Rounding → OfferEntry → Sides → LeftOfCall → Amounts
amounts_of rounding o sides left = exchanged rounding (price_n o) (price_d o) (bounds_of o sides left)

-- what is left of a bound once so much has moved; an issuer's stays
abbrev pub still_most : Location → (most moved : ℕ) → ℕ
still_most location.Nowhere most moved = most
still_most other most moved = most - moved

-- how much rests of an offer of so much, of which so much moved
abbrev pub rest_by : OfferEntry → Sides → (amount wheat sheep : ℕ) → (stays : Bool) → ℕ
rest_by o sides amount wheat sheep stays =
    if stays
    then adjusted (price_n o) (price_d o)
    (min (amount - wheat) (still_most sides.gives_at (unsigned_abs sides.gives) wheat))
    (still_most sides.takes_at (unsigned_abs sides.takes) sheep)
    else 0

abbrev pub rest_of : Rounding → OfferEntry → Sides → LeftOfCall → ℕ
rest_of rounding o sides left =
    let b = bounds_of o sides left in
    let a = amounts_of rounding o sides left in
    rest_by o sides b.wheat_send a.wheat a.sheep (wheat_stays (price_n o) (price_d o) b)

-- what an offer moves and what rests of it
pub record IsPlan (rounding : Rounding) (o : OfferEntry) (sides : Sides) (left : LeftOfCall)
    (plan : Plan) : Type 0 where
  pub wheat : plan.wheat ≡ pos (amounts_of rounding o sides left).wheat
  pub sheep : plan.sheep ≡ pos (amounts_of rounding o sides left).sheep
  pub stays : plan.wheat_stays ≡ wheat_stays (price_n o) (price_d o) (bounds_of o sides left)
  pub rest : plan.rest ≡ pos (rest_of rounding o sides left)

-- ---- changes

-- what the rest of an offer binds; where there is none, nothing
abbrev pub rest_bound : OfferEntry → ℕ → Amounts
rest_bound o zero = record { wheat = 0; sheep = 0 }
rest_bound o (suc n) = bound_by o.price (pos (suc n))

-- one side gives wheat, and is released from what was bound, up to what still is
abbrev pub change_to_give : (wheat was now : ℤ) → Change
change_to_give wheat was now = record { balance = neg_ℤ wheat; selling = now -ℤ was; buying = pos 0 }

abbrev pub change_to_take : (sheep was now : ℤ) → Change
change_to_take sheep was now = record { balance = sheep; selling = pos 0; buying = now -ℤ was }

abbrev pub giving_change : OfferEntry → Amounts → ℕ → Change
giving_change o a rest =
    change_to_give (pos a.wheat) (pos (bound_of o).wheat) (pos (rest_bound o rest).wheat)

abbrev pub taking_change : OfferEntry → Amounts → ℕ → Change
taking_change o a rest =
    change_to_take (pos a.sheep) (pos (bound_of o).sheep) (pos (rest_bound o rest).sheep)

abbrev pub map_with_rest : OfferEntry → ℕ → EntryMap → EntryMap
map_with_rest o zero m = map_after_removing (offer_key o) m
map_with_rest o (suc n) m = with_offer m o.seller_id o.offer_id (λ was. with_amount (suc n) o)

-- each holder changes once, and then the offer
abbrev pub map_after_once : OfferEntry → Amounts → ℕ → EntryMap → EntryMap
map_after_once o a rest m =
    map_with_rest o rest
    (changing (seller_takes_at o) (taking_change o a rest) (changing (seller_gives_at o) (giving_change o a rest) m))

-- ---- what is carried out

-- a plan of numbers of at least 0
pub record IsCarried (o : OfferEntry) (bound : Liabilities) (plan : Plan) : Type 0 where
  pub wheat : pos 0 ≤ℤ plan.wheat
  pub sheep : pos 0 ≤ℤ plan.sheep
  pub rest : pos 0 ≤ℤ plan.rest
  pub selling : bound.selling ≡ pos (bound_of o).wheat
  pub buying : bound.buying ≡ pos (bound_of o).sheep

abbrev pub moved_by : Plan → Amounts
moved_by plan = record { wheat = unsigned_abs plan.wheat; sheep = unsigned_abs plan.sheep }

abbrev pub gives_in : OfferEntry → Plan → Change
gives_in o plan = giving_change o (moved_by plan) (unsigned_abs plan.rest)

abbrev pub takes_in : OfferEntry → Plan → Change
takes_in o plan = taking_change o (moved_by plan) (unsigned_abs plan.rest)

abbrev pub map_of : OfferEntry → Sides → Plan → EntryMap → EntryMap
map_of o sides plan m =
    changing (location_key o.seller_id sides.takes_at) (takes_in o plan)
    (changing (location_key o.seller_id sides.gives_at) (gives_in o plan) m)
