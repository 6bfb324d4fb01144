-- What deposits ask for, and that it is fair.
use Rattle.std.proofs.Common.{◌≡◌, refl, sym, ap, subst, ◌∙◌, ℤ, pos, ◌≤ℤ◌, unsigned_abs, Option, Some, None}
use Rattle.std.proofs.Common.{ℕ, ◌+◌, ◌-◌, ◌*◌, ◌/◌, ◌^◌, ◌<◌, ◌≤◌, min, true, false, arith}
use Rattle.std.proofs.Math.Nat.{div-lt_iff_lt-mul, div-mul-le_self, lt-div-mul-add, mul-le-mul, mul-le-mul_right}
use Rattle.std.proofs.Math.Nat.{one-le-mul, mul-zero, lt_of_not-le, min-le_left, min-le_right}
use Rattle.std.proofs.lemmas.Bool.{eqb-true}
use Rattle.std.proofs.lemmas.Nat.{le-div, mul-lt}
use Rattle.std.proofs.lemmas.Int.{ints}
use Rattle.std.specs.Prelude.{nat_eq, if◌then◌else◌}
use Rattle.std.specs.Option.{SomeIff}
use Rattle.wide_math.specs.Root.{IsRoot, square_root}
use Rattle.pool_math.specs.declared.deposits.Deposited.{Deposited}
use Rattle.pool_math.specs.Calls.{IsUnsigned, numbers_of, AnswersDeposit}
use Rattle.pool_math.specs.Parts.{signed}
use Rattle.pool_math.specs.Pools.{Deposit, greatest, shares_for, asked_for, later_deposit, deposited, AreFilledOrEmpty}
use Rattle.pool_math.specs.Laws.{IsFairDeposit}

-- the root of a product of two numbers of 63 bits has 63 bits
pub root_small : (root a b : ℕ) → a < 2 ^ 63 → b < 2 ^ 63 → root * root ≤ a * b → root < 2 ^ 63
root_small root a b small_a small_b root_of =
    lt_of_not-le (λ (large : 2 ^ 63 ≤ root).
    past (mul-le-mul large large) (mul-lt a b (2 ^ 63) (2 ^ 63) small_a small_b))
  where
    past : 2 ^ 63 * 2 ^ 63 ≤ root * root → a * b < 2 ^ 63 * 2 ^ 63 → ⊥
    past most less = omega arith

-- ---- one asset

-- as many shares as so much of an asset gives, or fewer
enough_for : (reserve total most shares : ℕ) → shares ≤ shares_for reserve total most → shares * reserve ≤ total * most
enough_for reserve total most shares enough =
    omega (arith, mul-le-mul_right reserve enough, div-mul-le_self (total * most) reserve)

pub asked_within : (reserve total most shares : ℕ) → 1 ≤ total → shares ≤ shares_for reserve total most
    → asked_for reserve total shares ≤ most
asked_within reserve total most shares some enough = not_past (asked_for reserve total shares)
    ((div-lt_iff_lt-mul {k = total} {x = shares * reserve + (total - 1)} {y = most + 1} some).1
    (next (enough_for reserve total most shares enough)))
  where
    next : shares * reserve ≤ total * most → shares * reserve + (total - 1) < (most + 1) * total
    next le = omega arith

    not_past : (asked : ℕ) → asked < most + 1 → asked ≤ most
    not_past asked below = omega arith

asked_part : (reserve total shares : ℕ) → 1 ≤ total → shares * reserve ≤ asked_for reserve total shares * total
asked_part reserve total shares some =
    reaches (asked_for reserve total shares * total)
    (lt-div-mul-add {a = shares * reserve + (total - 1)} {b = total} some)
  where
    reaches : (x : ℕ) → shares * reserve + (total - 1) < x + total → shares * reserve ≤ x
    reaches x past = omega arith

asked_some : (reserve total shares : ℕ) → 1 ≤ reserve → 1 ≤ total → 1 ≤ shares → 1 ≤ asked_for reserve total shares
asked_some reserve total shares some_reserve some some_shares =
    le-div 1 (shares * reserve + (total - 1)) total some (omega (arith, one-le-mul some_shares some_reserve))

-- ---- both assets

pub later_fair : (reserve_a reserve_b total max_a max_b : ℕ) → 1 ≤ reserve_a → 1 ≤ reserve_b → 1 ≤ total
    → IsFairDeposit reserve_a reserve_b total max_a max_b (later_deposit reserve_a reserve_b total max_a max_b)
later_fair reserve_a reserve_b total max_a max_b some_a some_b some =
    let of_a = shares_for reserve_a total max_a in
    let of_b = shares_for reserve_b total max_b in
    let shares = min of_a of_b in
    record {
      a = asked_within reserve_a total max_a shares some (min-le_left of_a of_b);
      b = asked_within reserve_b total max_b shares some (min-le_right of_a of_b);
      part_of_a = asked_part reserve_a total shares some;
      part_of_b = asked_part reserve_b total shares some;
      some_a = asked_some reserve_a total shares some_a some;
      some_b = asked_some reserve_b total shares some_b some;
    }

pub first_fair : (reserve_a reserve_b total max_a max_b : ℕ) (d : Deposit) → reserve_a ≡ 0 → reserve_b ≡ 0 → 1 ≤ max_a
    → 1 ≤ max_b → d.a ≡ max_a → d.b ≡ max_b → IsFairDeposit reserve_a reserve_b total max_a max_b d
first_fair reserve_a reserve_b total max_a max_b d none_a none_b some_a some_b all_a all_b = record {
  a = omega arith;
  b = omega arith;
  part_of_a = omega (arith, nothing reserve_a none_a);
  part_of_b = omega (arith, nothing reserve_b none_b);
  some_a = λ some. omega arith;
  some_b = λ some. omega arith;
}
  where
    nothing : (reserve : ℕ) → reserve ≡ 0 → d.shares * reserve ≡ 0
    nothing reserve none = rw none (mul-zero d.shares)

-- ---- what calls answer

-- the deposit into an empty pool, as a function
first_is : (reserve_a reserve_b total max_a max_b : ℕ) (d : Deposit) → total ≡ 0
    → d.shares ≡ square_root (max_a * max_b) → d.a ≡ max_a → d.b ≡ max_b
    → d ≡ deposited reserve_a reserve_b total max_a max_b
first_is reserve_a reserve_b total max_a max_b d none root all_a all_b =
    same d (record { shares = square_root (max_a * max_b); a = max_a; b = max_b }) root all_a all_b
    ∙ sym (ap (λ n. deposited reserve_a reserve_b n max_a max_b) none)
  where
    same : (x y : Deposit) → x.shares ≡ y.shares → x.a ≡ y.a → x.b ≡ y.b → x ≡ y
    same x y shares a b = λ i. record { shares = shares i; a = a i; b = b i }

-- .. and into another one
later_is : (reserve_a reserve_b total max_a max_b : ℕ) → 1 ≤ total
    → later_deposit reserve_a reserve_b total max_a max_b ≡ deposited reserve_a reserve_b total max_a max_b
later_is reserve_a reserve_b total max_a max_b some = elim (nat_eq total 0) as (λ b. nat_eq total 0 ≡ b
    → later_deposit reserve_a reserve_b total max_a max_b ≡ (if b
    then record { shares = square_root (max_a * max_b); a = max_a; b = max_b }
    else later_deposit reserve_a reserve_b total max_a max_b)) [
      | true ↦ λ none. absurd (past (eqb-true total 0 none))
      | false ↦ λ full. refl
    ] refl
  where
    past : total ≡ 0 → ⊥
    past none = omega arith

pub first_answers : (a b total max_a max_b : ℤ) (d : Deposited) → total ≡ pos 0 → pos 1 ≤ℤ max_a → pos 1 ≤ℤ max_b
    → AreFilledOrEmpty (unsigned_abs a) (unsigned_abs b) (unsigned_abs total)
    → IsRoot (unsigned_abs max_a * unsigned_abs max_b) (unsigned_abs d.shares)
    → unsigned_abs d.shares ≡ square_root (unsigned_abs max_a * unsigned_abs max_b) → pos 0 ≤ℤ d.shares
    → d.a ≡ max_a → d.b ≡ max_b → AnswersDeposit a b total max_a max_b (Some d)
first_answers a b total max_a max_b d none some_a some_b filled root function no_debt all_a all_b =
    let no_total : unsigned_abs total ≡ 0 = ap unsigned_abs none in
    let most_a : unsigned_abs d.a ≡ unsigned_abs max_a = ap unsigned_abs all_a in
    let most_b : unsigned_abs d.b ≡ unsigned_abs max_b = ap unsigned_abs all_b in (
      ((λ empty. (root, (most_a, most_b))), λ some. absurd (past no_total some)),
      first_is (unsigned_abs a) (unsigned_abs b) (unsigned_abs total) (unsigned_abs max_a) (unsigned_abs max_b)
          (numbers_of d) no_total function most_a most_b,
      first_fair (unsigned_abs a) (unsigned_abs b) (unsigned_abs total) (unsigned_abs max_a) (unsigned_abs max_b)
          (numbers_of d) (filled.a.1 no_total) (filled.b.1 no_total) (omega (arith, ints))
          (omega (arith, ints)) most_a most_b,
      record { shares = no_debt; a = above d.a max_a all_a some_a; b = above d.b max_b all_b some_b },
      record { fits = λ some. absurd (past no_total some) },
    )
  where
    past : unsigned_abs total ≡ 0 → 1 ≤ unsigned_abs total → ⊥
    past is some = omega arith

    above : (n most : ℤ) → n ≡ most → pos 1 ≤ℤ most → pos 0 ≤ℤ n
    above n most is some = omega (arith, ints)

-- the deposit into a pool that isn't empty
abbrev later : (a b total max_a max_b : ℤ) → Deposit
later a b total max_a max_b =
    later_deposit (unsigned_abs a) (unsigned_abs b) (unsigned_abs total) (unsigned_abs max_a) (unsigned_abs max_b)

pub later_answers : (a b total max_a max_b : ℤ) (answer : Option Deposited) → 1 ≤ unsigned_abs total
    → SomeIff answer ((later a b total max_a max_b).shares ≤ greatest) (signed (later a b total max_a max_b))
    → IsFairDeposit (unsigned_abs a) (unsigned_abs b) (unsigned_abs total) (unsigned_abs max_a) (unsigned_abs max_b)
    (later a b total max_a max_b)
    → AnswersDeposit a b total max_a max_b answer
later_answers a b total max_a max_b None some not fair = λ can. not (can.fits some)
later_answers a b total max_a max_b (Some d) some is fair =
    subst (λ (r : Deposited). AnswersDeposit a b total max_a max_b (Some r)) (sym is.1) (
      ((λ none. absurd (past none some)), λ full. refl),
      later_is (unsigned_abs a) (unsigned_abs b) (unsigned_abs total) (unsigned_abs max_a) (unsigned_abs max_b) some,
      fair,
      not_below,
      record { fits = λ some. is.0 },
    )
  where
    past : unsigned_abs total ≡ 0 → 1 ≤ unsigned_abs total → ⊥
    past none full = omega arith

    least : (n : ℕ) → pos 0 ≤ℤ pos n
    least n = omega (arith, ints)

    not_below : IsUnsigned (signed (later a b total max_a max_b))
    not_below = record {
      shares = least (later a b total max_a max_b).shares;
      a = least (later a b total max_a max_b).a;
      b = least (later a b total max_a max_b).b;
    }
