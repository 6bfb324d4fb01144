-- What the call that crosses one offer answers, and what it needs of the map.
use Rattle.std.specs.Prelude.{◌≡◌, ◌≤◌, ℕ, pos}
use Rattle.ledger_types.specs.declared.price.Liabilities.{Liabilities}
use Rattle.ledger_types.specs.declared.offer.OfferEntry.{OfferEntry}
use Rattle.entry_map.specs.EntryMap.{EntryMap}
use Rattle.offer_exchange.specs.Exchange.{unlimited}
use Rattle.legal_rules.specs.OfferLiabilities.{bound_of}
use Rattle.trade_cross.specs.declared.plan.Plan.{Plan}
use Rattle.trade_cross.specs.declared.plan.Sides.{Sides}
use Rattle.trade_cross.specs.Crossing.{Step, seller_gives_at, seller_takes_at}
use Rattle.trade_cross.specs.Locations.{location_key}
use Rattle.trade_cross.specs.Sides.{given_with, taken_with, IsInRangeAt}

-- what an offer binds
pub record IsBoundOf (o : OfferEntry) (bound : Liabilities) : Type 0 where
  pub selling : bound.selling ≡ pos (bound_of o).wheat
  pub buying : bound.buying ≡ pos (bound_of o).sheep

-- what an offer's owner has is in its ranges, and what it can give and take, once it is released, fits
pub record AreSidesReady (base : ℕ) (m : EntryMap) (o : OfferEntry) : Type 0 where
  pub gives_range : IsInRangeAt m (seller_gives_at o)
  pub takes_range : IsInRangeAt m (seller_takes_at o)
  pub gives : given_with base (pos (bound_of o).wheat) m (seller_gives_at o) ≤ unlimited
  pub takes : taken_with (pos (bound_of o).sheep) m (seller_takes_at o) ≤ unlimited

pub record AreSidesOf (base : ℕ) (m : EntryMap) (o : OfferEntry) (sides : Sides) : Type 0 where
  pub gives_at : location_key o.seller_id sides.gives_at ≡ seller_gives_at o
  pub gives : sides.gives ≡ pos (given_with base (pos (bound_of o).wheat) m (seller_gives_at o))
  pub takes_at : location_key o.seller_id sides.takes_at ≡ seller_takes_at o
  pub takes : sides.takes ≡ pos (taken_with (pos (bound_of o).sheep) m (seller_takes_at o))

-- what a step moved
pub record IsMoved (plan : Plan) (done : Step) : Type 0 where
  pub wheat : plan.wheat ≡ pos done.amounts.wheat
  pub sheep : plan.sheep ≡ pos done.amounts.sheep
  pub stays : plan.wheat_stays ≡ done.stays
