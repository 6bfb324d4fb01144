-- Rounded quotients, roots and orders of fractions, worked out with whole numbers of any size. The contracts of
-- wide_math name these definitions.
use Rattle.definition_rows.proofs.Prelude.{◌≡◌, refl, sym, ◌∙◌, ℕ, ℤ, pos, ◌+◌, ◌*◌, ◌^◌, ◌<◌, Bool, true, ◌&&◌, Option}
use Rattle.definition_rows.proofs.Prelude.{Some, None, SomeIff, nat_le, nat_lt, Decides, then_some, Ordering, Less}
use Rattle.definition_rows.proofs.Prelude.{Equal, Greater, nat_cmp}
use Rattle.wide_math.specs.declared.quotient.Round.{Round}
use Rattle.wide_math.specs.declared.quotient.Round.TheVariants.{Down, Up}
use Rattle.wide_math.specs.Quotient.{quotient}
use Rattle.wide_math.specs.Root.{IsRoot, square_root}
use Rattle.wide_math.proofs.Roots.{root_function}
use Rattle.definition_rows.proofs.Computed.{answers_so, below, same_numbers, same_orders}
use Rattle.definition_rows.proofs.Computed.{and_decides, nat_le_decides}

-- the greatest number of 64 bits with a sign
abbrev greatest : ℕ
greatest = 9223372036854775807

-- ---- what calls answer

-- mul_div of a product of two numbers, scaled_div of one of three
pub quotient_answers : (round : Round) (product divisor : ℕ) (answer : Option ℤ)
    → SomeIff answer (quotient round product divisor < 2 ^ 63) (pos (quotient round product divisor))
    → answer ≡ then_some (nat_lt (quotient round product divisor) (2 ^ 63)) (pos (quotient round product divisor))
quotient_answers round product divisor answer h =
    answers_so answer (quotient round product divisor < 2 ^ 63) (pos (quotient round product divisor))
    (nat_lt (quotient round product divisor) (2 ^ 63)) (below (quotient round product divisor) (2 ^ 63)) h

-- the quotient where it fits 64 bits
abbrev divided : Round → (product divisor : ℕ) → Option ℕ
divided round product divisor =
    then_some (nat_lt (quotient round product divisor) (2 ^ 63)) (quotient round product divisor)

-- a product is divided so, rounded down and rounded up
abbrev is_divided : (product divisor : ℕ) → (down up : Option ℕ) → Bool
is_divided product divisor down up =
    same_numbers (divided Down product divisor) down && same_numbers (divided Up product divisor) up

-- a number has this root
abbrev pub is_root : (v root : ℕ) → Bool
is_root v root = nat_le (root * root) v && nat_lt v ((root + 1) * (root + 1))

pub is_root_decides : (v root : ℕ) → Decides (is_root v root) (IsRoot v root)
is_root_decides v root = and_decides (nat_le (root * root) v) (nat_lt v ((root + 1) * (root + 1)))
    (nat_le_decides (root * root) v) (below v ((root + 1) * (root + 1)))

-- what isqrt answers, of which a row gives the number
root_answers : (v root answer : ℕ) → is_root v root ≡ true → answer ≡ square_root v → answer ≡ root
root_answers v root answer e h = h ∙ sym (root_function v root ((is_root_decides v root).0 e))

-- two fractions are ordered so
abbrev are_ordered : (a b : ℕ × ℕ) → Ordering → Bool
are_ordered a b order = same_orders (nat_cmp (a.0 * b.1) (b.0 * a.1)) order

-- ---- the rows

products_of_two_numbers_are_divided_and_rounded_either_way : (
    is_divided (7 * 3) 2 (Some 10) (Some 11)
    && is_divided (6 * 3) 2 (Some 9) (Some 9)
    && is_divided (0 * greatest) greatest (Some 0) (Some 0)
    && is_divided (greatest * 2) 1 None None
    && is_divided (greatest * 2) 2 (Some greatest) (Some greatest)
    && is_divided (50557 * 364870227143809) 2 (Some 9223372036854775806) (Some greatest)
    && is_divided (4294967295 * 4294967297) 2 (Some greatest) None
    && is_divided (123456789012345678 * 987654321098765432) 13579246801234567 (Some 8979336845541109199)
    (Some 8979336845541109200)
    && is_divided (greatest * greatest) 9223372036854775806 None None) ≡ true
products_of_two_numbers_are_divided_and_rounded_either_way = refl

products_of_three_numbers_are_divided_and_rounded_either_way : (
    is_divided (7 * 3 * 1) 2 (Some 10) (Some 11)
    && is_divided (6 * 3 * 10) 4 (Some 45) (Some 45)
    && is_divided (greatest * greatest * 0) 1 (Some 0) (Some 0)
    && is_divided (greatest * greatest * 1) 1 None None
    && is_divided (greatest * greatest * 10000) 1267650600228229401496703205375 (Some 671088639999) (Some 671088640000)
    && is_divided (1000000007 * 1000000009 * 9970) 10000000123 (Some 997000003688) (Some 997000003689)
    && is_divided (greatest * greatest * 9970) 91957019207442114795790 (Some greatest) (Some greatest)
    && is_divided (4294967295 * 4294967297 * 5000) 10000 (Some greatest) None
    && is_divided (greatest * greatest * 9970) 91947795835405260019983 None None) ≡ true
products_of_three_numbers_are_divided_and_rounded_either_way = refl

root_steps_at_each_square : (
    is_root 0 0
    && is_root 1 1
    && is_root 3 1
    && is_root 4 2
    && is_root 1524157875323883675019051998750190520 1234567890123456788
    && is_root 1524157875323883675019051998750190521 1234567890123456789
    && is_root 85070591730234615865843651857942052863 greatest) ≡ true
root_steps_at_each_square = refl

fractions_are_ordered_by_value : (
    are_ordered (1, 3) (2, 6) Equal
    && are_ordered (1, 3) (1, 2) Less
    && are_ordered (1, 2) (1, 3) Greater
    && are_ordered (2147483647, 1) (2147483647, 2147483646) Greater
    && are_ordered (1, 2147483647) (1, 2147483646) Less
    && are_ordered (2147483645, 2147483646) (2147483646, 2147483647) Less
    && are_ordered (2147483647, 2147483647) (1, 1) Equal) ≡ true
fractions_are_ordered_by_value = refl
