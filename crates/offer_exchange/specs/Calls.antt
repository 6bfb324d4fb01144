-- What calls answer, by the whole numbers that their 64 bits are.
use Rattle.std.specs.Prelude.{◌≡◌, ℕ, ℤ, pos, ◌≤ℤ◌, unsigned_abs}
use Rattle.ledger_types.specs.declared.price.Price.{Price}
use Rattle.ledger_types.specs.declared.price.Liabilities.{Liabilities}
use Rattle.offer_exchange.specs.declared.bounds.Bounds.{Bounds as BoundsOfCall}
use Rattle.offer_exchange.specs.declared.trade.Exchanged.{Exchanged}
use Rattle.offer_exchange.specs.declared.rounding.Rounding.{Rounding}
use Rattle.offer_exchange.specs.Exchange.{Bounds, Amounts, wheat_stays, exchanged, wanted, liabilities}

-- bounds of at least 0
pub record AreBounds (bounds : BoundsOfCall) : Type 0 where
  pub wheat_send : pos 0 ≤ℤ bounds.wheat_send
  pub wheat_receive : pos 0 ≤ℤ bounds.wheat_receive
  pub sheep_send : pos 0 ≤ℤ bounds.sheep_send
  pub sheep_receive : pos 0 ≤ℤ bounds.sheep_receive

abbrev pub parts_of : Price → ℕ × ℕ
parts_of price = (unsigned_abs price.n, unsigned_abs price.d)

abbrev pub bounds_of : BoundsOfCall → Bounds
bounds_of bounds = record {
  wheat_send = unsigned_abs bounds.wheat_send;
  wheat_receive = unsigned_abs bounds.wheat_receive;
  sheep_send = unsigned_abs bounds.sheep_send;
  sheep_receive = unsigned_abs bounds.sheep_receive;
}

abbrev pub amounts_of : Rounding → Price → BoundsOfCall → Amounts
amounts_of rounding price bounds = exchanged rounding (parts_of price).0 (parts_of price).1 (bounds_of bounds)

-- an exchange was worked out
pub record IsExchange (rounding : Rounding) (price : Price) (bounds : BoundsOfCall) (answer : Exchanged) : Type 0 where
  pub wheat : answer.wheat ≡ pos (amounts_of rounding price bounds).wheat
  pub sheep : answer.sheep ≡ pos (amounts_of rounding price bounds).sheep
  pub stays : answer.wheat_stays ≡ wheat_stays (parts_of price).0 (parts_of price).1 (bounds_of bounds)

abbrev pub bound_by : Price → ℤ → Amounts
bound_by price amount = liabilities (parts_of price).0 (parts_of price).1 (unsigned_abs amount)

-- what an offer of so much binds
pub record AreLiabilities (price : Price) (amount : ℤ) (answer : Liabilities) : Type 0 where
  pub selling : answer.selling ≡ pos (bound_by price amount).wheat
  pub buying : answer.buying ≡ pos (bound_by price amount).sheep

abbrev pub wanted_by : Price → (send receive : ℤ) → Amounts
wanted_by price send receive =
    wanted (parts_of price).0 (parts_of price).1 (unsigned_abs send) (unsigned_abs receive)

-- what an offer would bind that sends and receives so much at most
pub record AreWanted (price : Price) (send receive : ℤ) (answer : Liabilities) : Type 0 where
  pub selling : answer.selling ≡ pos (wanted_by price send receive).wheat
  pub buying : answer.buying ≡ pos (wanted_by price send receive).sheep
