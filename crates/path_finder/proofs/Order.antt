-- The order of keys, and of costs.
use Rattle.std.specs.Prelude.{◌≤ℤ◌, ◌<ℤ◌, int_lt}
use Rattle.std.specs.declared.cmp.Ordering.{Ordering}
use Rattle.std.specs.declared.cmp.Ordering.TheVariants.{Less, Equal, Greater}
use Rattle.std.specs.Ordering.{MatchOrdering, ordering_reverse}
use Rattle.std.specs.Cmp.{nat_cmp_is}
use Rattle.std.specs.Cmp.Lexicographic.{slice_cmp}
use Rattle.std.proofs.lemmas.Cmp.{ranked, tied_itself, nat_list_cmp_total}
use Rattle.std.proofs.lemmas.Int.{ints}
use Rattle.path_finder.proofs.Prelude.{◌≡◌, refl, sym, ap, ◌∙◌, ℕ, ◌<◌, List, true, false, true≢false, ◌⊎◌, inl, inr}
use Rattle.path_finder.proofs.Prelude.{ℤ, arith, nat_cmp, is_lt, ordering_then, is_less}

-- ---- keys

pub not_below_itself : (xs : List ℕ) → is_less xs xs ≡ false
not_below_itself xs = ap is_lt (tied_itself nat_list_cmp_total xs)

pub not_both_below : (xs ys : List ℕ) → is_less xs ys ≡ true → is_less ys xs ≡ false
not_both_below xs ys below = elim (slice_cmp nat_cmp xs ys) as
    (λ o. slice_cmp nat_cmp xs ys ≡ o → is_lt o ≡ true → is_less ys xs ≡ false) [
      | Less ↦ λ e _. ap is_lt (nat_list_cmp_total.antisymm ys xs ∙ ap ordering_reverse e)
      | Equal ↦ λ _ h. absurd (true≢false (sym h))
      | Greater ↦ λ _ h. absurd (true≢false (sym h))
    ] refl below

-- ---- the next number of two keys

-- it decides, or it ties
pub below_cases : (x i : ℕ) (rest : Ordering) → is_lt (ordering_then (nat_cmp x i) rest) ≡ true
    → (x < i) ⊎ ((x ≡ i) × (is_lt rest ≡ true))
below_cases x i rest = by (nat_cmp x i) (ranked x i (nat_cmp x i) refl)
  where
    by : (o : Ordering) → MatchOrdering o (x < i) (x ≡ i) (i < x) → is_lt (ordering_then o rest) ≡ true
        → (x < i) ⊎ ((x ≡ i) × (is_lt rest ≡ true))
    by Less below h = inl below
    by Equal same h = inr (same, h)
    by Greater above h = absurd (true≢false (sym h))

pub below_decides : (x i : ℕ) (rest : Ordering) → x < i → is_lt (ordering_then (nat_cmp x i) rest) ≡ true
below_decides x i rest h = ap (λ o. is_lt (ordering_then o rest)) (sym (nat_cmp_is x i Less h))

pub below_by_rest : (x i : ℕ) (rest : Ordering) → x ≡ i → is_lt rest ≡ true
    → is_lt (ordering_then (nat_cmp x i) rest) ≡ true
below_by_rest x i rest same h = ap (λ o. is_lt (ordering_then o rest)) (sym (nat_cmp_is x i Equal same)) ∙ h

-- ---- costs

pub less_costs : (a b : ℤ) → int_lt a b ≡ true → a <ℤ b
less_costs a b h = grind (arith, ints)

pub not_less : (a b : ℤ) → int_lt a b ≡ false → b ≤ℤ a
not_less a b h = grind (arith, ints)

pub up_to : (a b c : ℤ) → a <ℤ b → b ≤ℤ c → a ≤ℤ c
up_to a b c h k = omega (arith, ints)

pub above : (a b : ℤ) → a <ℤ b → b ≤ℤ a → ⊥
above a b h k = omega (arith, ints)

pub itself_costs : (a b : ℤ) → a ≡ b → a ≤ℤ b
itself_costs a b h = omega (arith, ints)
