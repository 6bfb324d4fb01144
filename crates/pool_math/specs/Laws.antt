-- What holds of each answer beside its value.
use Rattle.std.specs.Prelude.{◌≡◌, ℕ, ◌+◌, ◌-◌, ◌*◌, ◌<◌, ◌≤◌}
use Rattle.pool_math.specs.Pools.{Deposit}

-- the pool keeps some of what it gives, and the product of its reserves doesn't fall
pub record IsSwapped (x y put given : ℕ) : Type 0 where
  pub left : given < y
  pub product : x * y ≤ (x + put) * (y - given)

-- a deposit is within its bounds, and gives no more shares than its part of either asset
pub record IsFairDeposit (reserve_a reserve_b total max_a max_b : ℕ) (d : Deposit) : Type 0 where
  pub a : d.a ≤ max_a
  pub b : d.b ≤ max_b
  pub part_of_a : d.shares * reserve_a ≤ d.a * total
  pub part_of_b : d.shares * reserve_b ≤ d.b * total
  -- where it gives shares, it asks for both
  pub some_a : 1 ≤ d.shares → 1 ≤ d.a
  pub some_b : 1 ≤ d.shares → 1 ≤ d.b

-- a withdrawal takes no more than its part; all with all shares, and else leaves some of what there is
pub record IsFairWithdrawal (reserve total shares taken : ℕ) : Type 0 where
  pub within : taken ≤ reserve
  pub part : taken * total ≤ shares * reserve
  pub all : 1 ≤ shares → shares ≡ total → taken ≡ reserve
  pub some_left : shares < total → 1 ≤ reserve → taken < reserve
