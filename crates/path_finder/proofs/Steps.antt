-- What each step of the search leaves.
use Rattle.std.proofs.lemmas.List.Elements.{Contains-get_or}
use Rattle.path_finder.proofs.Considered.{cheapest_of_same, considered}
use Rattle.path_finder.proofs.Limits as limits
use Rattle.path_finder.proofs.Positions.{position_at}
use Rattle.path_finder.proofs.Prelude.{◌≡◌, refl, sym, ap, subst, ◌∙◌, ℕ, ◌+◌, ◌<◌, List, [], ◌∷◌, length, get_or}
use Rattle.path_finder.proofs.Prelude.{Bool, true, false, ◌⊎◌, inr, Contains, ℤ, Option, None, IsDistinct, Asset}
use Rattle.path_finder.proofs.Prelude.{is_same_asset, position_in, sort_key, IsCheapestPath, better, IsPathBefore}
use Rattle.path_finder.proofs.Prelude.{IsBestBefore, Found}

module _ (cost_of : List Asset → Option ℤ) (c : List Asset) where
  -- a path with this very key is considered
  considered_at : (limit next : List ℕ) (p : List Asset) → sort_key c p ≡ limit → IsPathBefore c next p
      → ((q : List Asset) → IsPathBefore c limit q → IsPathBefore c next q)
      → ((q : List Asset) → IsPathBefore c next q → IsPathBefore c limit q ⊎ (q ≡ p))
      → (best found : Option Found) (cost : Option ℤ) → found ≡ better best p cost → cost ≡ cost_of p
      → IsBestBefore cost_of c limit best → IsBestBefore cost_of c next found
  considered_at limit next p at new on only best found cost e f h =
      subst (λ b. IsBestBefore cost_of c next b) (sym (e ∙ ap (better best p) f))
      (considered cost_of c (IsPathBefore c limit) (IsPathBefore c next) p new on only (limits.at_limit c p limit at)
      best h)

  pub none_considered : (found : Option Found) (cost : Option ℤ) → found ≡ better None [] cost → cost ≡ cost_of []
      → IsBestBefore cost_of c (1 ∷ []) found
  none_considered found cost e f =
      considered_at (0 ∷ []) (1 ∷ []) [] refl (limits.none_before c) (λ q h. limits.not_before_none c q h)
      (λ q h. inr (limits.only_none c q h)) None found cost e f (λ q h. limits.not_before_none c q h)

  pub singles_first : (best : Option Found) → IsBestBefore cost_of c (1 ∷ []) best
      → IsBestBefore cost_of c (1 ∷ 0 ∷ []) best
  singles_first = cheapest_of_same cost_of c _ _ (limits.singles_begin c) (limits.singles_begun c)

  pub singles_last : (best : Option Found) → IsBestBefore cost_of c (1 ∷ length c ∷ []) best
      → IsBestBefore cost_of c (2 ∷ []) best
  singles_last = cheapest_of_same cost_of c _ _ (limits.singles_end c) (limits.singles_ended c)

  pub pairs_first : (i : ℕ) (best : Option Found) → IsBestBefore cost_of c (2 ∷ i ∷ []) best
      → IsBestBefore cost_of c (2 ∷ i ∷ 0 ∷ []) best
  pairs_first i = cheapest_of_same cost_of c _ _ (limits.pairs_begin c i) (limits.pairs_begun c i)

  pub pairs_last : (i : ℕ) (best : Option Found) → IsBestBefore cost_of c (2 ∷ i ∷ length c ∷ []) best
      → IsBestBefore cost_of c (2 ∷ (i + 1) ∷ []) best
  pairs_last i = cheapest_of_same cost_of c _ _ (limits.pairs_end c i) (limits.pairs_ended c i)

  pub all_first : (best : Option Found) → IsBestBefore cost_of c (2 ∷ []) best
      → IsBestBefore cost_of c (2 ∷ 0 ∷ []) best
  all_first = cheapest_of_same cost_of c _ _ (limits.all_begin c) (limits.all_begun c)

  pub all_last : (best : Option Found) → IsBestBefore cost_of c (2 ∷ length c ∷ []) best
      → IsCheapestPath cost_of c best
  all_last = cheapest_of_same cost_of c _ _ (limits.all_end c) (limits.all_ended c)

  module _ (distinct : IsDistinct is_same_asset c) (i : ℕ) (d : Asset) (below : i < length c) where
    abbrev here : Asset
    here = get_or c i d

    pub is_at : position_in c here ≡ i
    is_at = position_at c distinct i d below

    pub single_considered : (best found : Option Found) (cost : Option ℤ) → found ≡ better best (here ∷ []) cost
        → cost ≡ cost_of (here ∷ [])
        → IsBestBefore cost_of c (1 ∷ i ∷ []) best → IsBestBefore cost_of c (1 ∷ (i + 1) ∷ []) found
    single_considered =
        let among = Contains-get_or c i d below in
        considered_at (1 ∷ i ∷ []) (1 ∷ (i + 1) ∷ []) (here ∷ []) (limits.single_key c i here among is_at)
        (limits.single_before c i here among is_at) (limits.singles_on c i here among is_at)
        (limits.singles_only c i here among is_at)

    module _ (first : Asset) (in_first : Contains c first) where
      pub pair_considered : (answer : Bool) → answer ≡ is_same_asset first here → answer ≡ false
          → (best found : Option Found) (cost : Option ℤ) → found ≡ better best (first ∷ here ∷ []) cost
          → cost ≡ cost_of (first ∷ here ∷ [])
          → IsBestBefore cost_of c (2 ∷ position_in c first ∷ i ∷ []) best
          → IsBestBefore cost_of c (2 ∷ position_in c first ∷ (i + 1) ∷ []) found
      pair_considered answer is other =
          let among = Contains-get_or c i d below in
          considered_at (2 ∷ position_in c first ∷ i ∷ []) (2 ∷ position_in c first ∷ (i + 1) ∷ []) (first ∷ here ∷ [])
          (limits.pair_key c (position_in c first) i first here in_first among refl is_at)
          (limits.pair_before c (position_in c first) i first here in_first among refl is_at (sym is ∙ other))
          (limits.pairs_on c (position_in c first) i)
          (limits.pairs_only c (position_in c first) i first here in_first among refl is_at)

      pub pair_skipped : (answer : Bool) → answer ≡ is_same_asset first here → answer ≡ true → (best : Option Found)
          → IsBestBefore cost_of c (2 ∷ position_in c first ∷ i ∷ []) best
          → IsBestBefore cost_of c (2 ∷ position_in c first ∷ (i + 1) ∷ []) best
      pair_skipped answer is same =
          let among = Contains-get_or c i d below in
          cheapest_of_same cost_of c _ _ (limits.pairs_on c (position_in c first) i)
          (limits.pairs_skipped c (position_in c first) i first here in_first among refl is_at (sym is ∙ same))
