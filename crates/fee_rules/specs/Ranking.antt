-- Ranks by counting: what is at a rank is that before which exactly so many others go.
use Rattle.std.specs.Prelude.{ℕ, zero, suc, nat_eq, ◌++◌, List, [], ◌∷◌, length, Option, Some, None}
use Rattle.std.specs.List.{count_by, find}
use Rattle.std.specs.declared.cmp.Ordering.{Ordering}
use Rattle.std.specs.Ordering.{is_lt}

-- how many of a list go before one
abbrev pub rank_of : {X : Type 0} → (X → X → Ordering) → List X → X → ℕ
rank_of cmp xs x = count_by (λ other. is_lt (cmp other x)) xs

-- the one before which exactly k others go
abbrev pub at_rank : {X : Type 0} → (X → X → Ordering) → List X → ℕ → Option X
at_rank cmp xs k = find (λ x. nat_eq (rank_of cmp xs x) k) xs

abbrev pub at_most_one : {X : Type 0} → Option X → List X
at_most_one None = []
at_most_one (Some x) = x ∷ []

-- those of the first k ranks, in the order of their ranks
unfoldable pub first_ranked : {X : Type 0} → (X → X → Ordering) → List X → ℕ → List X
first_ranked cmp xs zero = []
first_ranked cmp xs (suc k) = first_ranked cmp xs k ++ at_most_one (at_rank cmp xs k)

-- all, in the order of their ranks
abbrev pub ranked : {X : Type 0} → (X → X → Ordering) → List X → List X
ranked cmp xs = first_ranked cmp xs (length xs)
