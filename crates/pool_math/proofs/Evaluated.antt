-- The definitions evaluated, on rows that Python's whole numbers worked out from the formulas of CAP-0038.
use Rattle.std.proofs.Common.{◌≡◌, refl, ℕ, Bool, true, ◌&&◌}
use Rattle.std.specs.Prelude.{nat_eq}
use Rattle.pool_math.specs.Pools.{given_for, taken_for, later_deposit, withdrawn, greatest}

abbrev gives : (x y put given : ℕ) → Bool
gives x y put given = nat_eq (given_for x y put) given

abbrev takes : (x y want taken : ℕ) → Bool
takes x y want taken = nat_eq (taken_for x y want) taken

-- the pool is given by its reserves and its shares, then come the maxima; then shares and amounts
abbrev deposits : ℕ × ℕ × ℕ → ℕ × ℕ → ℕ × ℕ × ℕ → Bool
deposits pool most asked =
    let d = later_deposit pool.0 pool.1 pool.2 most.0 most.1 in
    nat_eq d.shares asked.0 && nat_eq d.a asked.1 && nat_eq d.b asked.2

abbrev withdraws : (reserve total shares taken : ℕ) → Bool
withdraws reserve total shares taken = nat_eq (withdrawn reserve total shares) taken

swaps : (gives 1000000 1000000 1000 996
    && gives 1000000 1000000 1 0
    && gives 1 greatest 1 4604758097518383314
    && takes 1000000 1000000 996 1000
    && takes 5 7 6 31
    && takes 1 9195701920744211479 9195701920744211478 9223372036854775806) ≡ true
unfolding given_for taken_for
swaps = refl

deposits_later : (deposits (1000, 2000, 1500) (10, 15) (11, 8, 15)
    && deposits (88, 7, 24) (1, 7) (0, 0, 0)
    && deposits (1, 1, greatest) (2, 1) (greatest, 1, 1)) ≡ true
deposits_later = refl

withdrawals : (withdraws 400 200 1 2
    && withdraws 100 200 1 0
    && withdraws 88 24 24 88
    && withdraws 5 0 0 0) ≡ true
unfolding withdrawn
withdrawals = refl
