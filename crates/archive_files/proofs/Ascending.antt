-- The numbers of headers in ascending order.
use Rattle.archive_files.proofs.Prelude.{AreNumbersOf, Contains, Err, HeaderFact, IsTrue, List, Ok, Result, arith}
use Rattle.archive_files.proofs.Prelude.{get_or, inl, inr, length, numbers, refl, subst, sym, ℕ, ◌<◌, ◌↔◌, ◌∙◌, ◌≡◌}
use Rattle.archive_files.proofs.Prelude.{◌≤◌}
use Rattle.std.proofs.lemmas.Bool.{cases_lt}
use Rattle.std.proofs.lemmas.List.{get_or_default}
use Rattle.std.proofs.lemmas.List.Sorted.{Contains-permutation, IsNonDecreasingBy-from_sort, IsPermutation-sym}
use Rattle.std.proofs.lemmas.List.Sorted.{searched}
use Rattle.std.specs.List.Sorted.{IsBinarySearchResult, IsNonDecreasing, IsPermutation, IsSorted}
use Rattle.std.specs.Ordering.{nat_cmp}
use Rattle.std.specs.Prelude.{is_ok}
use Rattle.std.specs.Result.{MatchResult}

pub numbers_sorted : (plain sorted : List ℕ) (heads : List HeaderFact) → plain ≡ numbers heads
    → IsPermutation plain sorted → IsSorted nat_cmp sorted → AreNumbersOf sorted heads
numbers_sorted plain sorted heads is moved up = record {
  ascending = IsNonDecreasingBy-from_sort (λ x. x) sorted up;
  same = λ n. (
    (λ there. subst (λ l. Contains l n) is
        (Contains-permutation sorted plain n (IsPermutation-sym plain sorted moved) there)),
    (λ there. Contains-permutation plain sorted n moved (subst (λ l. Contains l n) (sym is) there)),
  );
}

contains_at : (xs : List ℕ) (n i : ℕ) → i < length xs → get_or xs i 0 ≡ n → Contains xs n
contains_at xs n i lt is = (i, lt, get_or_default xs i n 0 lt ∙ is)

-- below one index all numbers are lower, and from it on higher
elsewhere : (xs : List ℕ) (n i k : ℕ) → ((j : ℕ) → j < i → get_or xs j 0 < n)
    → ((j : ℕ) → i ≤ j → j < length xs → n < get_or xs j 0) → k < length xs → get_or xs k 0 ≡ n → ⊥
elsewhere xs n i k low high lt is = elim (cases_lt k i) [
  | inl below ↦ omega (arith, low k below, is)
  | inr above ↦ omega (arith, high k above lt, is)
]

-- what a search of them found
found : (xs : List ℕ) (n : ℕ) (r : Result ℕ ℕ)
    → MatchResult r (λ i. (i < length xs) × (get_or xs i 0 ≡ n))
    (λ i. (i ≤ length xs) × ((k : ℕ) → k < i → get_or xs k 0 < n)
    × ((k : ℕ) → i ≤ k → k < length xs → n < get_or xs k 0))
    → IsTrue (is_ok r) ↔ Contains xs n
found xs n (Ok i) h = ((λ _. contains_at xs n i h.0 h.1), (λ _. refl))
found xs n (Err i) h = (
  (λ no. absurd (cc no)),
  (λ there. absurd (elsewhere xs n i there.0 h.1 h.2 there.1
      (get_or_default xs there.0 0 n there.1 ∙ there.2))),
)

pub search_decides : (xs : List ℕ) (n : ℕ) (r : Result ℕ ℕ) → IsNonDecreasing xs
    → IsBinarySearchResult (λ y. nat_cmp y n) xs r → IsTrue (is_ok r) ↔ Contains xs n
search_decides xs n r up h = found xs n r (searched xs n r h (λ i j le lt. up i j 0 le lt))
