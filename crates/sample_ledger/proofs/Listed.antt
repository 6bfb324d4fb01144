-- Lists of what each number from 0 on gives.
use Rattle.std.proofs.Common.{◌≡◌, ℕ, ◌+◌, ◌-◌, ◌<◌, ◌≤◌, [], ◌∷◌, ◌++◌, get_or, map, ap, ◌∙◌, arith}
use Rattle.std.specs.List.{range_with_len}
use Rattle.std.proofs.lemmas.List.FromFn.{get_or-map-range_with_len, map-range_with_len_more}

pub at_number : {X : Type 0} (f : ℕ → X) (n i : ℕ) (d : X) → i < n → get_or (map f (range_with_len 0 n)) i d ≡ f i
at_number f n i d below = get_or-map-range_with_len f 0 n i i d below (omega arith)

pub one_number_more : {X : Type 0} (f : ℕ → X) (n : ℕ)
    → map f (range_with_len 0 (n + 1)) ≡ map f (range_with_len 0 n) ++ f n ∷ []
one_number_more f n = map-range_with_len_more f 0 n n (omega arith)

-- the same from 1 on
pub next_from_one : {X : Type 0} (f : ℕ → X) (n : ℕ) → 1 ≤ n
    → map f (range_with_len 1 (n + 1 - 1)) ≡ map f (range_with_len 1 (n - 1)) ++ f n ∷ []
next_from_one f n low =
    let length : n + 1 - 1 ≡ (n - 1) + 1 = omega arith in
    ap (λ (len : ℕ). map f (range_with_len 1 len)) length ∙ map-range_with_len_more f 1 (n - 1) n (omega arith)
