-- A sorted list without ties, of the elements of another, is that one by ranks.
use Rattle.fee_rules.proofs.Prelude as prelude
use prelude.{◌≡◌, ℕ, ◌<◌, ◌≤◌, zero, suc, Bool, true, false, cond, List, [], ◌∷◌, ◌++◌, length, get_or, take, Contains}
use prelude.{Some, refl, ap, ◌∙◌, sym, subst, arith, nat_eq, eq-eqb, find, IsDistinct, IsPermutation, IsSorted}
use prelude.{Ordering, eq_by_cmp, IsTotalOrder, take_all, take-suc, get_or_default, Contains-get_or, length_permutation}
use prelude.{Contains-permutation, IsPermutation-sym, rank_of, at_rank, at_most_one, first_ranked, ranked}
use Rattle.std.proofs.lemmas.Bool.{eqb-true}
use Rattle.fee_rules.proofs.Counting.{sorted_counts}

-- ---- finding

record Found {X : Type 0} (p : X → Bool) (xs : List X) (d : X) : Type 0 where
  found : X
  is : find p xs ≡ Some found
  index : ℕ
  below : index < length xs
  there : get_or xs index d ≡ found
  passes : p found ≡ true

found_at_first : {X : Type 0} (p : X → Bool) (x : X) (xs : List X) (d : X) → p x ≡ true → Found p (x ∷ xs) d
found_at_first p x xs d q =
    record {
      found = x;
      is = ap (λ b. cond b (Some x) (find p xs)) q;
      index = 0;
      below = omega arith;
      there = refl;
      passes = q;
    }

later : {X : Type 0} (p : X → Bool) (x : X) (xs : List X) (d : X) → p x ≡ false → Found p xs d → Found p (x ∷ xs) d
later p x xs d q f =
    record {
      found = f.found;
      is = ap (λ b. cond b (Some x) (find p xs)) q ∙ f.is;
      index = suc f.index;
      below = (let h = f.below in omega arith);
      there = f.there;
      passes = f.passes;
    }

choose : {X : Type 0} (p : X → Bool) (x : X) (xs : List X) (d : X) (b : Bool) → p x ≡ b
    → (p x ≡ false → Found p xs d) → Found p (x ∷ xs) d
choose p x xs d true q rest = found_at_first p x xs d q
choose p x xs d false q rest = later p x xs d q (rest q)

find_some : {X : Type 0} (p : X → Bool) (xs : List X) (i : ℕ) (d : X) → i < length xs → p (get_or xs i d) ≡ true
    → Found p xs d
find_some p [] i d h e = absurd (omega arith)
find_some p (x ∷ xs) zero d h e = found_at_first p x xs d e
find_some p (x ∷ xs) (suc i) d h e = choose p x xs d (p x) refl (λ q. find_some p xs i d (omega arith) e)

-- ---- ranks

module _ {X : Type 0} {R : X → X → Ordering} (o : IsTotalOrder R) (xs ys : List X) (moved : IsPermutation xs ys)
    (sorted : IsSorted R ys) (apart : IsDistinct (eq_by_cmp R) xs) where
  -- what is found at a rank is there in the sorted list
  exists : (k : ℕ) (d : X) → k < length ys → Found (λ x. nat_eq (rank_of R xs x) k) xs d
      → at_rank R xs k ≡ Some (get_or ys k d)
  exists k d within f =
      let among : Contains xs f.found = subst (λ x. Contains xs x) f.there (Contains-get_or xs f.index d f.below) in
      let in_order : Contains ys f.found = Contains-permutation xs ys f.found moved among in
      let i = in_order.0 in
      let there : get_or ys i d ≡ f.found = get_or_default ys i d f.found in_order.1 ∙ in_order.2 in
      let its_rank : rank_of R xs f.found ≡ k = eqb-true (rank_of R xs f.found) k f.passes in
      let counted : rank_of R xs (get_or ys i d) ≡ i = sorted_counts o xs ys moved sorted apart i d in_order.1 in
      let same : i ≡ k = sym counted ∙ ap (rank_of R xs) there ∙ its_rank in
      f.is ∙ ap Some (sym there ∙ ap (λ n. get_or ys n d) same)

  at_each : (k : ℕ) (d : X) → k < length ys → at_rank R xs k ≡ Some (get_or ys k d)
  at_each k d within =
      let back : Contains xs (get_or ys k d) =
      Contains-permutation ys xs (get_or ys k d) (IsPermutation-sym xs ys moved) (Contains-get_or ys k d within) in
      let there : get_or xs back.0 d ≡ get_or ys k d = get_or_default xs back.0 d (get_or ys k d) back.1 ∙ back.2 in
      let counted : rank_of R xs (get_or ys k d) ≡ k = sorted_counts o xs ys moved sorted apart k d within in
      let passes : nat_eq (rank_of R xs (get_or xs back.0 d)) k ≡ true =
      eq-eqb (rank_of R xs (get_or xs back.0 d)) k (ap (rank_of R xs) there ∙ counted) in
      exists k d within (find_some (λ x. nat_eq (rank_of R xs x) k) xs back.0 d back.1 passes)

  first_are : (k : ℕ) (d : X) → k ≤ length ys → first_ranked R xs k ≡ take k ys
  unfolding first_ranked
  first_are zero d within = refl
  first_are (suc k) d within =
      ap (λ zs. zs ++ at_most_one (at_rank R xs k)) (first_are k d (omega arith))
      ∙ ap (λ found. take k ys ++ at_most_one found) (at_each k d (omega arith))
      ∙ sym (take-suc ys k d (omega arith))

-- the sorted list is the one by ranks
pub sorted_is_ranked : {X : Type 0} {R : X → X → Ordering} (o : IsTotalOrder R) (xs ys : List X) → IsPermutation xs ys
    → IsSorted R ys → IsDistinct (eq_by_cmp R) xs → X → ranked R xs ≡ ys
sorted_is_ranked {R} o xs ys moved sorted apart d =
    let same : length ys ≡ length xs = length_permutation xs ys moved in
    first_are o xs ys moved sorted apart (length xs) d (omega (arith, same))
    ∙ take_all (length xs) ys (omega (arith, same))
