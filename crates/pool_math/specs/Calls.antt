-- What calls answer, by the whole numbers that their 64 bits are.
use Rattle.std.specs.Prelude.{◌≡◌, ℤ, pos, ◌≤ℤ◌, unsigned_abs, Option, Some, None}
use Rattle.pool_math.specs.declared.deposits.Deposited.{Deposited}
use Rattle.pool_math.specs.Pools.{Deposit, CanDeposit, IsDeposit, deposited}
use Rattle.pool_math.specs.Laws.{IsFairDeposit}

-- the numbers of a deposit
abbrev pub numbers_of : Deposited → Deposit
numbers_of d = record { shares = unsigned_abs d.shares; a = unsigned_abs d.a; b = unsigned_abs d.b }

-- none of its numbers is below 0
pub record IsUnsigned (d : Deposited) : Type 0 where
  pub shares : pos 0 ≤ℤ d.shares
  pub a : pos 0 ≤ℤ d.a
  pub b : pos 0 ≤ℤ d.b

-- a deposit was worked out, or it can't be
abbrev pub AnswersDeposit : (a b total max_a max_b : ℤ) → Option Deposited → Type 0
AnswersDeposit a b total max_a max_b None =
    CanDeposit (unsigned_abs a) (unsigned_abs b) (unsigned_abs total) (unsigned_abs max_a) (unsigned_abs max_b) → ⊥
AnswersDeposit a b total max_a max_b (Some d) =
    IsDeposit (unsigned_abs a) (unsigned_abs b) (unsigned_abs total) (unsigned_abs max_a) (unsigned_abs max_b)
    (numbers_of d)
    × (numbers_of d ≡
    deposited (unsigned_abs a) (unsigned_abs b) (unsigned_abs total) (unsigned_abs max_a) (unsigned_abs max_b))
    × IsFairDeposit (unsigned_abs a) (unsigned_abs b) (unsigned_abs total) (unsigned_abs max_a) (unsigned_abs max_b)
    (numbers_of d)
    × IsUnsigned d
    × CanDeposit (unsigned_abs a) (unsigned_abs b) (unsigned_abs total) (unsigned_abs max_a) (unsigned_abs max_b)
