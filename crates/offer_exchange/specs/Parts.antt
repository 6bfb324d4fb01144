-- What private functions, which work without signs, say of their numbers.
use Rattle.std.specs.Prelude.{ℕ, ◌≤◌, ◌<◌, ◌^◌}
use Rattle.offer_exchange.specs.declared.rows.Amounts.{Amounts as AmountsOfCall}
use Rattle.offer_exchange.specs.Exchange.{Amounts}

-- the parts of a price that are at least 1 and fit 31 bits
pub record AreParts (n d : ℕ) : Type 0 where
  pub some_n : 1 ≤ n
  pub some_d : 1 ≤ d
  pub small_n : n < 2 ^ 31
  pub small_d : d < 2 ^ 31

abbrev pub amounts : AmountsOfCall → Amounts
amounts moved = record { wheat = moved.wheat; sheep = moved.sheep }
