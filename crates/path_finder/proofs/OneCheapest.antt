-- At most one path is the cheapest: its cost is the least, and its key is the first of those that cost the same.
use Rattle.std.specs.List.{AllByRecursion}
use Rattle.std.specs.declared.cmp.Ordering.{Ordering}
use Rattle.std.specs.declared.cmp.Ordering.TheVariants.{Less, Equal, Greater}
use Rattle.std.specs.Ordering.{MatchOrdering}
use Rattle.std.proofs.lemmas.Cmp.{ranked}
use Rattle.std.proofs.lemmas.Int.{ints}
use Rattle.path_finder.proofs.Order.{below_by_rest, below_decides}
use Rattle.path_finder.proofs.Positions.{same_at_position}
use Rattle.path_finder.proofs.Prelude.{◌≡◌, refl, sym, ap, ◌∙◌, ℕ, ◌<◌, List, [], ◌∷◌, map, Bool, true, false}
use Rattle.path_finder.proofs.Prelude.{true≢false}
use Rattle.path_finder.proofs.Prelude.{arith, Contains, ℤ, Option, Some, None, nat_cmp, Asset, position_in, sort_key}
use Rattle.path_finder.proofs.Prelude.{is_less, IsCheapest, IsPath, Found}
use Rattle.path_finder.specs.Cheapest.{CheapestPathsAreOne}

not_true : (b : Bool) → (b ≡ true → ⊥) → b ≡ false
not_true true h = absurd (h refl)
not_true false h = refl

both : (b : Bool) → b ≡ true → b ≡ false → ⊥
both b h k = true≢false (sym h ∙ k)

-- where the first numbers decide for neither, the others don't
next_keys : (x y : ℕ) (xs ys : List ℕ)
    → (is_less xs ys ≡ false → is_less ys xs ≡ false → xs ≡ ys)
    → is_less (x ∷ xs) (y ∷ ys) ≡ false → is_less (y ∷ ys) (x ∷ xs) ≡ false
    → (o : Ordering) → MatchOrdering o (x < y) (x ≡ y) (y < x) → x ∷ xs ≡ y ∷ ys
next_keys x y xs ys others h k Less below =
    absurd (both (is_less (x ∷ xs) (y ∷ ys)) (below_decides x y _ below) h)
next_keys x y xs ys others h k Equal same =
    let rest : xs ≡ ys = others
    (not_true (is_less xs ys) (λ less. both (is_less (x ∷ xs) (y ∷ ys)) (below_by_rest x y _ same less) h))
    (not_true (is_less ys xs) (λ less. both (is_less (y ∷ ys) (x ∷ xs)) (below_by_rest y x _ (sym same) less) k)) in
    λ i. same i ∷ rest i
next_keys x y xs ys others h k Greater above =
    absurd (both (is_less (y ∷ ys) (x ∷ xs)) (below_decides y x _ above) k)

-- two keys of which neither is below the other are one
same_keys : (xs ys : List ℕ) → is_less xs ys ≡ false → is_less ys xs ≡ false → xs ≡ ys
same_keys [] [] h k = refl
same_keys [] (y ∷ ys) h k = absurd (true≢false h)
same_keys (x ∷ xs) [] h k = absurd (true≢false k)
same_keys (x ∷ xs) (y ∷ ys) h k =
    next_keys x y xs ys (same_keys xs ys) h k (nat_cmp x y) (ranked x y (nat_cmp x y) refl)

-- two paths of candidates at the same positions are one
same_paths : (c p q : List Asset) → AllByRecursion (Contains c) p → AllByRecursion (Contains c) q
    → map (position_in c) p ≡ map (position_in c) q → p ≡ q
same_paths c [] [] h k e = refl
same_paths c [] (b ∷ q) h k e = absurd (cc)
same_paths c (a ∷ p) [] h k e = absurd (cc)
same_paths c (a ∷ p) (b ∷ q) h k e =
    let first : position_in c a ≡ position_in c b = cc in
    let others : map (position_in c) p ≡ map (position_in c) q = cc in
    let one : a ≡ b = same_at_position c a b h.0 k.0 first in
    let rest : p ≡ q = same_paths c p q h.1 k.1 others in
    λ i. one i ∷ rest i

module _ (cost_of : List Asset → Option ℤ) (c : List Asset) (a b : Found) (one : IsCheapest cost_of c (IsPath c) a)
    (other : IsCheapest cost_of c (IsPath c) b) where
  same_cost : a.cost ≡ b.cost
  same_cost =
      omega (
        arith,
        ints,
        one.least b.path b.cost other.among other.costs,
        other.least a.path a.cost one.among one.costs,
      )

  same_key : sort_key c a.path ≡ sort_key c b.path
  same_key = same_keys (sort_key c a.path) (sort_key c b.path)
      (other.first a.path one.among (one.costs ∙ ap Some same_cost))
      (one.first b.path other.among (other.costs ∙ ap Some (sym same_cost)))

  same_found : a ≡ b
  same_found =
      let keys = same_key in
      let positions : map (position_in c) a.path ≡ map (position_in c) b.path = cc in
      let paths : a.path ≡ b.path = same_paths c a.path b.path one.among.among other.among.among positions in
      λ i. record { path = paths i; cost = same_cost i }

pub cheapest_paths_are_one : CheapestPathsAreOne
cheapest_paths_are_one cost_of c (Some a) (Some b) one other = ap Some (same_found cost_of c a b one other)
cheapest_paths_are_one cost_of c (Some a) None one other =
    let costs = one.costs in let none = other a.path one.among in absurd (cc)
cheapest_paths_are_one cost_of c None (Some b) one other =
    let costs = other.costs in let none = one b.path other.among in absurd (cc)
cheapest_paths_are_one cost_of c None None one other = refl
