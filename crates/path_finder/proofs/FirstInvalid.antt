-- The index of the first part of a query that is invalid.
use Rattle.std.specs.Prelude.{nat_lt, position, option_map}
use Rattle.std.specs.List.{position_or_len}
use Rattle.std.proofs.lemmas.Bool.Decides.{nat_tests}
use Rattle.std.proofs.lemmas.List.{length-map}
use Rattle.path_finder.proofs.Prelude.{◌≡◌, refl, ap, ◌∙◌, ℕ, ◌+◌, List, [], ◌∷◌, length, suc, Bool, true, false, cond}
use Rattle.path_finder.proofs.Prelude.{not, map, arith, true≢false, Option, Some, None}

module _ {X : Type 0} (f : X → Bool) where
  position_map : (xs : List X) → position_or_len (λ b. b) (map f xs) ≡ position_or_len f xs
  position_map [] = refl
  position_map (x ∷ xs) = ap (λ n. cond (not (f x)) (1 + n) 0) (position_map xs)

  -- the position three further on, if there is one below a length
  abbrev found : (n m : ℕ) → Option ℕ
  found n m = cond (nat_lt (1 + (1 + (1 + n))) (suc (suc (suc m)))) (Some (1 + (1 + (1 + n)))) None

  shifted : (n m : ℕ) → found n m ≡ option_map (λ i. 3 + i) (cond (nat_lt n m) (Some n) None)
  shifted n m = by (nat_lt n m) tests
    where
      tests : nat_lt (1 + (1 + (1 + n))) (suc (suc (suc m))) ≡ nat_lt n m
      tests = grind (arith, nat_tests)

      sum : 1 + (1 + (1 + n)) ≡ 3 + n
      sum = omega arith

      by : (t : Bool) → nat_lt (1 + (1 + (1 + n))) (suc (suc (suc m))) ≡ t
          → cond (nat_lt (1 + (1 + (1 + n))) (suc (suc (suc m)))) (Some (1 + (1 + (1 + n)))) None
          ≡ option_map (λ i. 3 + i) (cond t (Some n) None)
      by true e = ap (λ t. cond t (Some (1 + (1 + (1 + n)))) None) e ∙ ap Some sum
      by false e = ap (λ t. cond t (Some (1 + (1 + (1 + n)))) None) e

  -- where the first three are valid it is three more than that of the first invalid item
  pub after_three : (a b d : Bool) → a ≡ false → b ≡ false → d ≡ false → (xs : List X)
      → position (λ t. t) (a ∷ b ∷ d ∷ map f xs) ≡ option_map (λ i. 3 + i) (position f xs)
  after_three true b d ea eb ed xs = absurd (true≢false ea)
  after_three false true d ea eb ed xs = absurd (true≢false eb)
  after_three false false true ea eb ed xs = absurd (true≢false ed)
  after_three false false false ea eb ed xs =
      ap (λ n. found n (length (map f xs))) (position_map xs) ∙ ap (found (position_or_len f xs)) (length-map xs f)
      ∙ shifted (position_or_len f xs) (length xs)
