-- What a liquidity pool of constant product gives and takes, in whole numbers without bounds (CAP-0038;
-- exchangeWithPool, LiquidityPoolDepositOpFrame and LiquidityPoolWithdrawOpFrame in stellar-core). The fee is 30 of
-- 10000.
use Rattle.std.specs.Prelude.{◌≡◌, ℕ, ◌+◌, ◌-◌, ◌*◌, ◌/◌, ◌<◌, ◌≤◌, min, nat_eq, if◌then◌else◌}
use Rattle.wide_math.specs.Root.{IsRoot, square_root}

-- the greatest number of 64 bits with a sign
abbrev pub greatest : ℕ
greatest = 9223372036854775807

-- the quotient rounded up; the divisor is at least 1
abbrev pub ceil_div : ℕ → ℕ → ℕ
ceil_div a b = (a + (b - 1)) / b

-- ---- swaps: a pool that has x of one asset and y of the other

-- what it gives of the other for so much of the one
unfoldable pub given_for : (x y put : ℕ) → ℕ
given_for x y put = 9970 * y * put / (10000 * x + 9970 * put)

-- it can: it isn't empty, what is put fits, and something is given
pub record CanGive (x y put : ℕ) : Type 0 where
  pub some_x : 1 ≤ x
  pub some_y : 1 ≤ y
  pub fits : x + put ≤ greatest
  pub some : 1 ≤ given_for x y put

-- what it takes of the one for so much of the other
unfoldable pub taken_for : (x y want : ℕ) → ℕ
taken_for x y want = ceil_div (10000 * x * want) ((y - want) * 9970)

-- it can: it isn't empty, not all of the other is wanted, and what is taken fits
pub record CanTake (x y want : ℕ) : Type 0 where
  pub some_x : 1 ≤ x
  pub some_y : 1 ≤ y
  pub left : want < y
  pub fits : x + taken_for x y want ≤ greatest

-- ---- deposits

pub record Deposit : Type 0 where
  pub shares : ℕ
  pub a : ℕ
  pub b : ℕ

-- the shares that so much at most of an asset gives, by what the pool has of it
abbrev pub shares_for : (reserve total most : ℕ) → ℕ
shares_for reserve total most = total * most / reserve

-- what so many shares ask of an asset
abbrev pub asked_for : (reserve total shares : ℕ) → ℕ
asked_for reserve total shares = ceil_div (shares * reserve) total

-- the deposit of which both assets have enough
abbrev pub deposit_of : (reserve_a reserve_b total shares : ℕ) → Deposit
deposit_of reserve_a reserve_b total shares = record {
  shares = shares;
  a = asked_for reserve_a total shares;
  b = asked_for reserve_b total shares;
}

abbrev pub later_deposit : (reserve_a reserve_b total max_a max_b : ℕ) → Deposit
later_deposit reserve_a reserve_b total max_a max_b =
    deposit_of reserve_a reserve_b total (min (shares_for reserve_a total max_a) (shares_for reserve_b total max_b))

-- Into an empty pool goes all, for as many shares as the root of the product; else as much as the asset with less of it
-- allows.
abbrev pub IsDeposit : (reserve_a reserve_b total max_a max_b : ℕ) → Deposit → Type 0
IsDeposit reserve_a reserve_b total max_a max_b d =
    (total ≡ 0 → IsRoot (max_a * max_b) d.shares × ((d.a ≡ max_a) × (d.b ≡ max_b)))
    × (1 ≤ total → d ≡ later_deposit reserve_a reserve_b total max_a max_b)

-- the same as a function
abbrev pub deposited : (reserve_a reserve_b total max_a max_b : ℕ) → Deposit
deposited reserve_a reserve_b total max_a max_b =
    if nat_eq total 0 then record { shares = square_root (max_a * max_b); a = max_a; b = max_b }
    else later_deposit reserve_a reserve_b total max_a max_b

-- so many shares fit 64 bits by one of the two assets at least; into an empty pool always
pub record CanDeposit (reserve_a reserve_b total max_a max_b : ℕ) : Type 0 where
  pub fits : 1 ≤ total → min (shares_for reserve_a total max_a) (shares_for reserve_b total max_b) ≤ greatest

-- a pool that has something of both assets, and shares, or nothing of any
pub record AreFilledOrEmpty (reserve_a reserve_b total : ℕ) : Type 0 where
  pub a : (reserve_a ≡ 0 → total ≡ 0) × (total ≡ 0 → reserve_a ≡ 0)
  pub b : (reserve_b ≡ 0 → total ≡ 0) × (total ≡ 0 → reserve_b ≡ 0)

-- ---- withdrawals

-- what so many shares give of an asset; none gives nothing, also where there is none
unfoldable pub withdrawn : (reserve total shares : ℕ) → ℕ
withdrawn reserve total shares = if nat_eq shares 0 then 0 else shares * reserve / total
