-- Prices that offers may have.
use Rattle.std.specs.Prelude.{pos, ◌≤ℤ◌}
use Rattle.ledger_types.specs.declared.price.Price.{Price}

-- a price whose parts are at least 1
pub record IsPriced (price : Price) : Type 0 where
  pub n : pos 1 ≤ℤ price.n
  pub d : pos 1 ≤ℤ price.d
