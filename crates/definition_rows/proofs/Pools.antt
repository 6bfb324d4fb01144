-- Swaps, deposits and withdrawals. The expected numbers were worked out by Python's whole numbers, straight from the
-- formulas of CAP-0038. The contracts of pool_math name these definitions.
use Rattle.definition_rows.proofs.Prelude.{◌≡◌, refl, ℕ, ℤ, pos, ◌+◌, ◌*◌, ◌≤◌, min, Bool, true, false, ◌&&◌, Option}
use Rattle.definition_rows.proofs.Prelude.{Some, None, SomeIff, option_map, nat_eq, nat_le, nat_lt, Decides, then_some}
use Rattle.pool_math.specs.declared.deposits.Deposited.{Deposited}
use Rattle.pool_math.specs.Calls.{numbers_of, AnswersDeposit}
use Rattle.pool_math.specs.Pools.{greatest, given_for, CanGive, taken_for, CanTake, withdrawn}
use Rattle.pool_math.specs.Pools.{Deposit, CanDeposit, shares_for, later_deposit}
use Rattle.definition_rows.proofs.Computed.{answers_so, below, same_numbers}
use Rattle.definition_rows.proofs.Quotients.{is_root}
use Rattle.definition_rows.proofs.Computed.{and_decides, nat_le_decides}

-- ---- swaps: what calls of swap_in and swap_out answer

abbrev can_give : (x y put : ℕ) → Bool
can_give x y put = (nat_le 1 x && nat_le 1 y) && (nat_le (x + put) greatest && nat_le 1 (given_for x y put))

can_give_decides : (x y put : ℕ) → Decides (can_give x y put) (CanGive x y put)
can_give_decides x y put =
    let decides = and_decides (nat_le 1 x && nat_le 1 y) (nat_le (x + put) greatest && nat_le 1 (given_for x y put))
    (and_decides (nat_le 1 x) (nat_le 1 y) (nat_le_decides 1 x) (nat_le_decides 1 y))
    (and_decides (nat_le (x + put) greatest) (nat_le 1 (given_for x y put))
    (nat_le_decides (x + put) greatest) (nat_le_decides 1 (given_for x y put))) in (
      λ e.
          let h = decides.0 e in record { some_x = h.0.0; some_y = h.0.1; fits = h.1.0; some = h.1.1 },
      λ h. decides.1 ((h.some_x, h.some_y), (h.fits, h.some)),
    )

swap_in_answers : (x y put : ℕ) (answer : Option ℤ) → SomeIff answer (CanGive x y put) (pos (given_for x y put))
    → answer ≡ then_some (can_give x y put) (pos (given_for x y put))
swap_in_answers x y put answer h =
    answers_so answer (CanGive x y put) (pos (given_for x y put)) (can_give x y put) (can_give_decides x y put) h

-- a swap gives so much for what is put
abbrev swap_gives : (x y put : ℕ) → Option ℕ → Bool
swap_gives x y put given = same_numbers (then_some (can_give x y put) (given_for x y put)) given

abbrev can_take : (x y want : ℕ) → Bool
can_take x y want = (nat_le 1 x && nat_le 1 y) && (nat_lt want y && nat_le (x + taken_for x y want) greatest)

can_take_decides : (x y want : ℕ) → Decides (can_take x y want) (CanTake x y want)
can_take_decides x y want =
    let decides = and_decides (nat_le 1 x && nat_le 1 y) (nat_lt want y && nat_le (x + taken_for x y want) greatest)
    (and_decides (nat_le 1 x) (nat_le 1 y) (nat_le_decides 1 x) (nat_le_decides 1 y))
    (and_decides (nat_lt want y) (nat_le (x + taken_for x y want) greatest)
    (below want y) (nat_le_decides (x + taken_for x y want) greatest)) in (
      λ e.
          let h = decides.0 e in record { some_x = h.0.0; some_y = h.0.1; left = h.1.0; fits = h.1.1 },
      λ h. decides.1 ((h.some_x, h.some_y), (h.left, h.fits)),
    )

swap_out_answers : (x y want : ℕ) (answer : Option ℤ) → SomeIff answer (CanTake x y want) (pos (taken_for x y want))
    → answer ≡ then_some (can_take x y want) (pos (taken_for x y want))
swap_out_answers x y want answer h =
    answers_so answer (CanTake x y want) (pos (taken_for x y want)) (can_take x y want) (can_take_decides x y want) h

-- a swap takes so much for what is wanted
abbrev swap_takes : (x y want : ℕ) → Option ℕ → Bool
swap_takes x y want taken = same_numbers (then_some (can_take x y want) (taken_for x y want)) taken

-- ---- deposits and withdrawals

-- A deposit into an empty pool takes both maxima, and gives so many shares for them.
abbrev first_gives : (max_a max_b shares : ℕ) → Bool
first_gives max_a max_b shares = is_root (max_a * max_b) shares

abbrev fewest_shares : ℕ × ℕ × ℕ → ℕ × ℕ → ℕ
fewest_shares pool most = min (shares_for pool.0 pool.2 most.0) (shares_for pool.1 pool.2 most.1)

-- into a pool that isn't empty
can_deposit_decides : (pool : ℕ × ℕ × ℕ) (most : ℕ × ℕ) → 1 ≤ pool.2
    → Decides (nat_le (fewest_shares pool most) greatest) (CanDeposit pool.0 pool.1 pool.2 most.0 most.1)
can_deposit_decides pool most some =
    let decides = nat_le_decides (fewest_shares pool most) greatest in
    (λ e. record { fits = λ _. decides.0 e }, λ h. decides.1 (h.fits some))

deposit_is_some_iff : (pool : ℕ × ℕ × ℕ) (most : ℕ × ℕ) (answer : Option Deposited) → 1 ≤ pool.2
    → AnswersDeposit (pos pool.0) (pos pool.1) (pos pool.2) (pos most.0) (pos most.1) answer
    → SomeIff (option_map numbers_of answer) (CanDeposit pool.0 pool.1 pool.2 most.0 most.1)
    (later_deposit pool.0 pool.1 pool.2 most.0 most.1)
deposit_is_some_iff pool most None some h = h
deposit_is_some_iff pool most (Some d) some h = (h.4, h.0.1 some)

-- what a call of deposit answers
deposit_answers : (pool : ℕ × ℕ × ℕ) (most : ℕ × ℕ) (answer : Option Deposited) → 1 ≤ pool.2
    → AnswersDeposit (pos pool.0) (pos pool.1) (pos pool.2) (pos most.0) (pos most.1) answer
    → option_map numbers_of answer
    ≡ then_some (nat_le (fewest_shares pool most) greatest) (later_deposit pool.0 pool.1 pool.2 most.0 most.1)
deposit_answers pool most answer some h =
    answers_so (option_map numbers_of answer) (CanDeposit pool.0 pool.1 pool.2 most.0 most.1)
    (later_deposit pool.0 pool.1 pool.2 most.0 most.1) (nat_le (fewest_shares pool most) greatest)
    (can_deposit_decides pool most some) (deposit_is_some_iff pool most answer some h)

abbrev same_deposits : Option Deposit → Option (ℕ × ℕ × ℕ) → Bool
same_deposits None None = true
same_deposits (Some d) (Some expected) = nat_eq d.shares expected.0 && nat_eq d.a expected.1 && nat_eq d.b expected.2
same_deposits a b = false

-- A deposit into a pool that isn't empty gives so many shares for so much of each asset. The pool is its reserves and
-- its shares.
abbrev later_gives : ℕ × ℕ × ℕ → ℕ × ℕ → Option (ℕ × ℕ × ℕ) → Bool
later_gives pool most expected =
    same_deposits
    (then_some (nat_le (fewest_shares pool most) greatest) (later_deposit pool.0 pool.1 pool.2 most.0 most.1))
    expected

-- a withdrawal takes so much
abbrev withdrawal_takes : (reserve total shares taken : ℕ) → Bool
withdrawal_takes reserve total shares taken = nat_eq (withdrawn reserve total shares) taken

-- ---- the rows

a_swap_gives_the_part_of_the_product_less_the_fee_rounded_down : (
    swap_gives 1000000 1000000 1000 (Some 996)
    && swap_gives 7 1000 3 (Some 299)
    && swap_gives 1234567890123 987654321098 55555555555 (Some 42408456113)
    && swap_gives 4611686018427387904 4611686018427387904 2305843009213693952 (Some 1534151137928630543)
    && swap_gives 1 greatest 1 (Some 4604758097518383314)) ≡ true
unfolding given_for
a_swap_gives_the_part_of_the_product_less_the_fee_rounded_down = refl

a_pool_without_one_of_its_assets_gives_nothing : (
    swap_gives 0 0 0 None
    && swap_gives 0 0 10 None
    && swap_gives 0 5 10 None
    && swap_gives 5 0 10 None
    && swap_gives 0 greatest greatest None) ≡ true
unfolding given_for
a_pool_without_one_of_its_assets_gives_nothing = refl

what_is_put_fills_a_reserve_up_to_the_greatest_number : (
    swap_gives 9223372036854774807 greatest 1000 (Some 997)
    && swap_gives 9223372036854774807 greatest 1001 None
    && swap_gives 4611686018427387904 greatest 4611686018427387903 (Some 4604758097518383314)
    && swap_gives 4611686018427387904 greatest 4611686018427387904 None
    && swap_gives 1 greatest 9223372036854775806 (Some 9223372036854775805)
    && swap_gives 1 greatest greatest None
    && swap_gives greatest greatest 1 None) ≡ true
unfolding given_for
what_is_put_fills_a_reserve_up_to_the_greatest_number = refl

a_swap_that_would_give_nothing_is_none : (
    swap_gives 5 7 0 None
    && swap_gives 1000000 1000000 1 None
    && swap_gives 1000000 1000000 2 (Some 1)
    && swap_gives 1000000 2 1003009 None
    && swap_gives 1000000 2 1003010 (Some 1)
    && swap_gives 1000000 1 9223372036853775807 None
    && swap_gives greatest greatest 0 None) ≡ true
unfolding given_for
a_swap_that_would_give_nothing_is_none = refl

a_swap_takes_the_part_of_the_product_with_the_fee_rounded_up : (
    swap_takes 1000000 1000000 996 (Some 1000)
    && swap_takes 3 10 3 (Some 2)
    && swap_takes 5 7 0 (Some 0)
    && swap_takes 1234567890123 987654321098 55555555555 (Some 73804931415)
    && swap_takes 1000000 greatest 4611686018427387903 (Some 1003010)
    && swap_takes greatest greatest 0 (Some 0)) ≡ true
unfolding taken_for
a_swap_takes_the_part_of_the_product_with_the_fee_rounded_up = refl

a_pool_without_one_of_its_assets_takes_nothing : (
    swap_takes 0 0 0 None
    && swap_takes 0 0 1 None
    && swap_takes 0 5 1 None
    && swap_takes 5 0 0 None
    && swap_takes 5 0 1 None) ≡ true
unfolding taken_for
a_pool_without_one_of_its_assets_takes_nothing = refl

all_but_one_can_be_wanted : (
    swap_takes 5 7 6 (Some 31)
    && swap_takes 5 7 7 None
    && swap_takes 5 7 8 None
    && swap_takes 1 1000 999 (Some 1003)
    && swap_takes 1 1000 1000 None
    && swap_takes 1000000 1000000 999999 (Some 1003008024073)
    && swap_takes 1000000 1000000 1000000 None
    && swap_takes 1 greatest greatest None) ≡ true
unfolding taken_for
all_but_one_can_be_wanted = refl

-- also where what is taken exceeds it by itself
what_is_taken_fills_a_reserve_up_to_the_greatest_number : (
    swap_takes 1 9195701920744211479 9195701920744211478 (Some 9223372036854775806)
    && swap_takes 1 9195701920744211480 9195701920744211479 None
    && swap_takes 1 9195701920744211481 9195701920744211480 None
    && swap_takes 9223372036854774807 9251125413094058 1 (Some 1000)
    && swap_takes 9223372036854774807 9251125413094057 1 None
    && swap_takes 9000000000000000000 greatest 222718102135112626 (Some 223372036854775807)
    && swap_takes 9000000000000000000 greatest 222718102135112627 None
    && swap_takes 1 greatest 9223372036854775806 None) ≡ true
unfolding taken_for
what_is_taken_fills_a_reserve_up_to_the_greatest_number = refl

the_first_deposit_gives_the_root_of_the_product : (
    first_gives 400 100 200
    && first_gives 1 1 1
    && first_gives 2 3 2
    && first_gives greatest 1 3037000499
    && first_gives greatest 9223372036854775806 9223372036854775806
    && first_gives greatest greatest greatest) ≡ true
the_first_deposit_gives_the_root_of_the_product = refl

a_later_deposit_is_bounded_by_the_asset_with_less_of_it : (
    later_gives (1000, 2000, 1500) (10, 30) (Some (15, 10, 20))
    && later_gives (1000, 2000, 1500) (10, 15) (Some (11, 8, 15))
    && later_gives (1000, 2000, 1500) (9, 20) (Some (13, 9, 18))
    && later_gives (123456789, 987654321, 345678912) (1111111, 9999999) (Some (3111109, 1111111, 8888886))
    && later_gives (greatest, greatest, greatest) (greatest, greatest) (Some (greatest, greatest, greatest))) ≡ true
a_later_deposit_is_bounded_by_the_asset_with_less_of_it = refl

a_deposit_too_small_for_a_share_is_of_nothing : (
    later_gives (88, 7, 24) (1, 7) (Some (0, 0, 0))
    && later_gives (greatest, greatest, 1) (9223372036854775806, greatest) (Some (0, 0, 0))
    && later_gives (greatest, greatest, 1) (greatest, 9223372036854775806) (Some (0, 0, 0))) ≡ true
a_deposit_too_small_for_a_share_is_of_nothing = refl

the_shares_of_one_asset_may_exceed_the_greatest_number_and_not_those_of_both : (
    later_gives (1, 1, greatest) (1, 1) (Some (greatest, 1, 1))
    && later_gives (1, 1, greatest) (2, 1) (Some (greatest, 1, 1))
    && later_gives (1, 1, greatest) (1, 2) (Some (greatest, 1, 1))
    && later_gives (1, 1, greatest) (2, 2) None
    && later_gives (2, 3, greatest) (2, 4) (Some (greatest, 2, 3))
    && later_gives (2, 3, greatest) (3, 3) (Some (greatest, 2, 3))
    && later_gives (2, 3, greatest) (3, 4) None
    && later_gives (1, greatest, greatest) (greatest, greatest) (Some (greatest, 1, greatest))
    && later_gives (1, 1, greatest) (greatest, greatest) None) ≡ true
the_shares_of_one_asset_may_exceed_the_greatest_number_and_not_those_of_both = refl

a_withdrawal_takes_its_part_rounded_down : (
    withdrawal_takes 400 200 1 2
    && withdrawal_takes 100 200 1 0
    && withdrawal_takes 100 200 199 99
    && withdrawal_takes 7 24 23 6
    && withdrawal_takes 88 24 23 84
    && withdrawal_takes 0 7 3 0
    && withdrawal_takes 1 greatest 9223372036854775806 0
    && withdrawal_takes greatest greatest 9223372036854775806 9223372036854775806
    && withdrawal_takes 987654321098765 123456789012345 55555555555 444444448490) ≡ true
unfolding withdrawn
a_withdrawal_takes_its_part_rounded_down = refl

no_shares_take_nothing : (
    withdrawal_takes 0 0 0 0
    && withdrawal_takes 5 0 0 0
    && withdrawal_takes 5 7 0 0
    && withdrawal_takes greatest greatest 0 0) ≡ true
unfolding withdrawn
no_shares_take_nothing = refl

all_shares_take_all : (
    withdrawal_takes 400 200 200 400
    && withdrawal_takes 100 200 200 100
    && withdrawal_takes 88 24 24 88
    && withdrawal_takes 0 7 7 0
    && withdrawal_takes greatest 1 1 greatest
    && withdrawal_takes 1 greatest greatest 1) ≡ true
unfolding withdrawn
all_shares_take_all = refl
