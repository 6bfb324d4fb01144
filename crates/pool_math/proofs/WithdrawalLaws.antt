-- What withdrawals take, and that it is fair.
use Rattle.std.proofs.Common.{◌≡◌, refl, ap, ◌∙◌, ℕ, ◌*◌, ◌/◌, ◌<◌, ◌≤◌, true, false, arith}
use Rattle.std.proofs.Math.Nat.{div-lt_iff_lt-mul, div-mul-le_self, div-le_of_le-mul, mul-div_cancel_left}
use Rattle.std.proofs.Math.Nat.{mul-le-mul_right, mul-lt-mul_of_pos_right}
use Rattle.std.proofs.lemmas.Bool.{eqb-true}
use Rattle.std.specs.Prelude.{nat_eq, if◌then◌else◌}
use Rattle.pool_math.specs.Pools.{withdrawn}
use Rattle.pool_math.specs.Laws.{IsFairWithdrawal}

-- a part of the shares gives no more than there is
pub withdrawn_within : (reserve total shares : ℕ) → shares ≤ total → shares * reserve / total ≤ reserve
withdrawn_within reserve total shares within = div-le_of_le-mul total (mul-le-mul_right reserve within)

taken_all : (reserve total shares : ℕ) → 1 ≤ shares → shares ≡ total → shares * reserve / total ≡ reserve
taken_all reserve total shares some is =
    ap (λ n. n * reserve / total) is ∙ mul-div_cancel_left reserve (omega arith)

taken_left : (reserve total shares : ℕ) → shares < total → 1 ≤ reserve → shares * reserve / total < reserve
taken_left reserve total shares fewer some =
    (div-lt_iff_lt-mul {k = total} {x = shares * reserve} {y = reserve} (omega arith)).1
    (omega (arith, mul-lt-mul_of_pos_right fewer some))

pub withdrawn_fair : (reserve total shares : ℕ) → shares ≤ total
    → IsFairWithdrawal reserve total shares (withdrawn reserve total shares)
unfolding withdrawn
withdrawn_fair reserve total shares within =
    elim (nat_eq shares 0) as (λ b. nat_eq shares 0 ≡ b
    → IsFairWithdrawal reserve total shares (if b then 0 else shares * reserve / total)) [
      | true ↦ λ is. none (eqb-true shares 0 is)
      | false ↦ λ is. some
    ] refl
  where
    none : shares ≡ 0 → IsFairWithdrawal reserve total shares 0
    none is = record {
      within = omega arith;
      part = omega arith;
      all = λ some. λ all. omega (arith, is, some);
      some_left = λ fewer. λ some. some;
    }

    some : IsFairWithdrawal reserve total shares (shares * reserve / total)
    some = record {
      within = withdrawn_within reserve total shares within;
      part = div-mul-le_self (shares * reserve) total;
      all = taken_all reserve total shares;
      some_left = taken_left reserve total shares;
    }

pub ruleset withdrawals = (withdrawn_within, withdrawn_fair)
