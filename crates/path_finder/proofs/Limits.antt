-- Which paths have a key below a limit, for the limits to which the loops come.
use Rattle.std.specs.declared.cmp.Ordering.{Ordering}
use Rattle.std.specs.declared.cmp.Ordering.TheVariants.{Equal, Greater}
use Rattle.path_finder.proofs.Order.{not_both_below, below_cases, below_decides, below_by_rest}
use Rattle.path_finder.proofs.Positions.{position_below, same_at_position}
use Rattle.path_finder.proofs.Prelude.{◌≡◌, refl, sym, ap, ◌∙◌, ℕ, ◌+◌, ◌<◌, ◌≤◌, List, [], ◌∷◌, length, Bool, true}
use Rattle.path_finder.proofs.Prelude.{false, true≢false, ◌⊎◌, inl, inr, arith, Contains, IsDistinct, nat_cmp, is_lt}
use Rattle.path_finder.proofs.Prelude.{ordering_then, Asset, is_same_asset, IsPath, position_in, sort_key, is_less}
use Rattle.path_finder.proofs.Prelude.{IsPathBefore}

by_length : (P : List Asset → Type 0) → P [] → ((a : Asset) → P (a ∷ [])) → ((a b : Asset) → P (a ∷ b ∷ []))
    → (path : List Asset) → length path ≤ 2 → P path
by_length P none single pair [] h = none
by_length P none single pair (a ∷ []) h = single a
by_length P none single pair (a ∷ b ∷ []) h = pair a b
by_length P none single pair (a ∷ b ∷ c ∷ path) h = absurd (omega (arith, h))

no : {X : Type 0} → false ≡ true → X
no h = absurd (true≢false (sym h))

below_next : (x i : ℕ) → x < i + 1 → (x < i) ⊎ (x ≡ i)
below_next x i h = grind arith

-- ---- the numbers after the length, of one asset and of two

-- no tie is below
below_limit : (x i : ℕ) (rest : Ordering) → is_lt rest ≡ false → is_lt (ordering_then (nat_cmp x i) rest) ≡ true → x < i
below_limit x i rest above h = elim (below_cases x i rest h) [ inl less ↦ less | inr tie ↦ no (sym above ∙ tie.1) ]

abbrev pair_below : (x y i j : ℕ) → Bool
pair_below x y i j = is_lt (ordering_then (nat_cmp x i) (ordering_then (nat_cmp y j) Equal))

pair_cases : (x y i j : ℕ) → pair_below x y i j ≡ true → (x < i) ⊎ ((x ≡ i) × (y < j))
pair_cases x y i j h = elim (below_cases x i (ordering_then (nat_cmp y j) Equal) h) [
  | inl less ↦ inl less
  | inr tie ↦ inr (tie.0, below_limit y j Equal refl tie.1)
]

by_first : (x y i j : ℕ) → x < i → pair_below x y i j ≡ true
by_first x y i j h = below_decides x i (ordering_then (nat_cmp y j) Equal) h

by_second : (x y i j : ℕ) → x ≡ i → y < j → pair_below x y i j ≡ true
by_second x y i j same h = below_by_rest x i (ordering_then (nat_cmp y j) Equal) same (below_decides y j Equal h)

module _ (c : List Asset) where
  abbrev pub at : Asset → ℕ
  at a = position_in c a

  abbrev pub Before : List ℕ → List Asset → Type 0
  Before limit path = IsPathBefore c limit path

  -- what holds of the paths before a limit holds by their length
  by_cases : (limit : List ℕ) (P : List Asset → Type 0) → (Before limit [] → P [])
      → ((a : Asset) → Before limit (a ∷ []) → P (a ∷ []))
      → ((a b : Asset) → Before limit (a ∷ b ∷ []) → P (a ∷ b ∷ []))
      → (path : List Asset) → Before limit path → P path
  by_cases limit P none single pair path h = by_length (λ q. Before limit q → P q) none single pair path h.0.short h

  -- a path whose key is the limit comes after those before it
  pub at_limit : (p : List Asset) (limit : List ℕ) → sort_key c p ≡ limit → (q : List Asset) → Before limit q
      → is_less (sort_key c p) (sort_key c q) ≡ false
  at_limit p limit e q its = ap (λ key. is_less key (sort_key c q)) e ∙ not_both_below (sort_key c q) limit its.1

  -- ---- the path of no asset

  none_is_path : IsPath c []
  unfolding IsDistinct
  none_is_path = record { short = omega arith; once = tt; among = tt }

  pub none_before : Before (1 ∷ []) []
  none_before = (none_is_path, refl)

  pub only_none : (q : List Asset) → Before (1 ∷ []) q → q ≡ []
  only_none = by_cases (1 ∷ []) (λ q. q ≡ []) (λ h. refl) (λ a h. no h.1) (λ a b h. no h.1)

  pub not_before_none : {X : Type 0} (q : List Asset) → Before (0 ∷ []) q → X
  not_before_none {X} = by_cases (0 ∷ []) (λ q. X) (λ h. no h.1) (λ a h. no h.1) (λ a b h. no h.1)

  -- ---- the paths of one asset

  single_is_path : (a : Asset) → Contains c a → IsPath c (a ∷ [])
  unfolding IsDistinct
  single_is_path a among = record { short = omega arith; once = (tt, tt); among = (among, tt) }

  pub singles_begin : (q : List Asset) → Before (1 ∷ []) q → Before (1 ∷ 0 ∷ []) q
  singles_begin = by_cases (1 ∷ []) (Before (1 ∷ 0 ∷ [])) (λ h. (h.0, refl)) (λ a h. no h.1) (λ a b h. no h.1)

  pub singles_begun : (q : List Asset) → Before (1 ∷ 0 ∷ []) q → Before (1 ∷ []) q
  singles_begun =
      by_cases (1 ∷ 0 ∷ []) (Before (1 ∷ [])) (λ h. (h.0, refl))
      (λ a h. let below = below_limit (at a) 0 Equal refl h.1 in absurd (omega (arith, below))) (λ a b h. no h.1)

  pub singles_end : (q : List Asset) → Before (1 ∷ length c ∷ []) q → Before (2 ∷ []) q
  singles_end =
      by_cases (1 ∷ length c ∷ []) (Before (2 ∷ [])) (λ h. (h.0, refl)) (λ a h. (h.0, refl)) (λ a b h. no h.1)

  pub singles_ended : (q : List Asset) → Before (2 ∷ []) q → Before (1 ∷ length c ∷ []) q
  singles_ended =
      by_cases (2 ∷ []) (Before (1 ∷ length c ∷ [])) (λ h. (h.0, refl))
      (λ a h. (h.0, below_decides (at a) (length c) Equal (position_below c a h.0.among.0))) (λ a b h. no h.1)

  module _ (i : ℕ) (p : Asset) (among : Contains c p) (is_at : position_in c p ≡ i) where
    pub single_key : sort_key c (p ∷ []) ≡ 1 ∷ i ∷ []
    single_key = ap (λ n. 1 ∷ n ∷ []) is_at

    pub single_before : Before (1 ∷ (i + 1) ∷ []) (p ∷ [])
    single_before = (single_is_path p among, below_decides (at p) (i + 1) Equal (omega (arith, is_at)))

    pub singles_on : (q : List Asset) → Before (1 ∷ i ∷ []) q → Before (1 ∷ (i + 1) ∷ []) q
    singles_on =
        by_cases (1 ∷ i ∷ []) (Before (1 ∷ (i + 1) ∷ [])) (λ h. (h.0, refl))
        (λ a h. let below = below_limit (at a) i Equal refl h.1 in
        (h.0, below_decides (at a) (i + 1) Equal (omega (arith, below))))
        (λ a b h. no h.1)

    pub singles_only : (q : List Asset) → Before (1 ∷ (i + 1) ∷ []) q → Before (1 ∷ i ∷ []) q ⊎ (q ≡ p ∷ [])
    singles_only =
        by_cases (1 ∷ (i + 1) ∷ []) (λ q. Before (1 ∷ i ∷ []) q ⊎ (q ≡ p ∷ [])) (λ h. inl (h.0, refl))
        (λ a h. by a h (below_next (at a) i (below_limit (at a) (i + 1) Equal refl h.1))) (λ a b h. no h.1)
      where
        by : (a : Asset) → Before (1 ∷ (i + 1) ∷ []) (a ∷ []) → (at a < i) ⊎ (at a ≡ i)
            → Before (1 ∷ i ∷ []) (a ∷ []) ⊎ ((a ∷ []) ≡ p ∷ [])
        by a h (inl less) = inl (h.0, below_decides (at a) i Equal less)
        by a h (inr same) = inr (ap (λ x. x ∷ []) (same_at_position c a p h.0.among.0 among (same ∙ sym is_at)))

  -- ---- the paths of two assets

  pair_is_path : (a b : Asset) → Contains c a → Contains c b → is_same_asset a b ≡ false → IsPath c (a ∷ b ∷ [])
  unfolding IsDistinct
  pair_is_path a b in_a in_b other =
      record { short = omega arith; once = ((other, tt), (tt, tt)); among = (in_a, (in_b, tt)) }

  are_apart : (a b : Asset) → IsPath c (a ∷ b ∷ []) → is_same_asset a b ≡ false
  unfolding IsDistinct
  are_apart a b h = h.once.0.0

  module _ (i : ℕ) where
    pub pairs_begin : (q : List Asset) → Before (2 ∷ i ∷ []) q → Before (2 ∷ i ∷ 0 ∷ []) q
    pairs_begin =
        by_cases (2 ∷ i ∷ []) (Before (2 ∷ i ∷ 0 ∷ [])) (λ h. (h.0, refl)) (λ a h. (h.0, refl))
        (λ a b h. (h.0, by_first (at a) (at b) i 0 (below_limit (at a) i Greater refl h.1)))

    pub pairs_begun : (q : List Asset) → Before (2 ∷ i ∷ 0 ∷ []) q → Before (2 ∷ i ∷ []) q
    pairs_begun =
        by_cases (2 ∷ i ∷ 0 ∷ []) (Before (2 ∷ i ∷ [])) (λ h. (h.0, refl)) (λ a h. (h.0, refl))
        (λ a b h. elim (pair_cases (at a) (at b) i 0 h.1) [
          | inl less ↦ (h.0, below_decides (at a) i Greater less)
          | inr tie ↦ absurd (omega (arith, tie.1))
        ])

    pub pairs_end : (q : List Asset) → Before (2 ∷ i ∷ length c ∷ []) q → Before (2 ∷ (i + 1) ∷ []) q
    pairs_end =
        by_cases (2 ∷ i ∷ length c ∷ []) (Before (2 ∷ (i + 1) ∷ [])) (λ h. (h.0, refl)) (λ a h. (h.0, refl))
        (λ a b h. elim (pair_cases (at a) (at b) i (length c) h.1) [
          | inl less ↦ (h.0, below_decides (at a) (i + 1) Greater (omega (arith, less)))
          | inr tie ↦ (h.0, below_decides (at a) (i + 1) Greater (omega (arith, tie.0)))
        ])

    pub pairs_ended : (q : List Asset) → Before (2 ∷ (i + 1) ∷ []) q → Before (2 ∷ i ∷ length c ∷ []) q
    pairs_ended =
        by_cases (2 ∷ (i + 1) ∷ []) (Before (2 ∷ i ∷ length c ∷ [])) (λ h. (h.0, refl)) (λ a h. (h.0, refl))
        (λ a b h. by a b h (below_next (at a) i (below_limit (at a) (i + 1) Greater refl h.1)))
      where
        by : (a b : Asset) → Before (2 ∷ (i + 1) ∷ []) (a ∷ b ∷ []) → (at a < i) ⊎ (at a ≡ i)
            → Before (2 ∷ i ∷ length c ∷ []) (a ∷ b ∷ [])
        by a b h (inl less) = (h.0, by_first (at a) (at b) i (length c) less)
        by a b h (inr same) = (h.0, by_second (at a) (at b) i (length c) same (position_below c b h.0.among.1.0))

    module _ (j : ℕ) where
      pub pairs_on : (q : List Asset) → Before (2 ∷ i ∷ j ∷ []) q → Before (2 ∷ i ∷ (j + 1) ∷ []) q
      pairs_on =
          by_cases (2 ∷ i ∷ j ∷ []) (Before (2 ∷ i ∷ (j + 1) ∷ [])) (λ h. (h.0, refl)) (λ a h. (h.0, refl))
          (λ a b h. elim (pair_cases (at a) (at b) i j h.1) [
            | inl less ↦ (h.0, by_first (at a) (at b) i (j + 1) less)
            | inr tie ↦ (h.0, by_second (at a) (at b) i (j + 1) tie.0 (omega (arith, tie.1)))
          ])

      -- a path before the next limit is before this one, or its assets have these positions
      pairs_either : (P : List Asset → Type 0) → ((q : List Asset) → Before (2 ∷ i ∷ j ∷ []) q → P q)
          → ((a b : Asset) → IsPath c (a ∷ b ∷ []) → at a ≡ i → at b ≡ j → P (a ∷ b ∷ []))
          → (q : List Asset) → Before (2 ∷ i ∷ (j + 1) ∷ []) q → P q
      pairs_either P old here =
          by_cases (2 ∷ i ∷ (j + 1) ∷ []) P (λ h. old [] (h.0, refl)) (λ a h. old (a ∷ []) (h.0, refl))
          (λ a b h. by a b h.0 (pair_cases (at a) (at b) i (j + 1) h.1))
        where
          by_next : (a b : Asset) → IsPath c (a ∷ b ∷ []) → at a ≡ i → (at b < j) ⊎ (at b ≡ j) → P (a ∷ b ∷ [])
          by_next a b path e (inl less) = old (a ∷ b ∷ []) (path, by_second (at a) (at b) i j e less)
          by_next a b path e (inr same) = here a b path e same

          by : (a b : Asset) → IsPath c (a ∷ b ∷ []) → (at a < i) ⊎ ((at a ≡ i) × (at b < j + 1)) → P (a ∷ b ∷ [])
          by a b path (inl less) = old (a ∷ b ∷ []) (path, by_first (at a) (at b) i j less)
          by a b path (inr tie) = by_next a b path tie.0 (below_next (at b) j tie.1)

  module _ (i j : ℕ) (f s : Asset) (in_f : Contains c f) (in_s : Contains c s) (f_at : position_in c f ≡ i)
      (s_at : position_in c s ≡ j) where
    same_pair : (a b : Asset) → IsPath c (a ∷ b ∷ []) → at a ≡ i → at b ≡ j → (a ≡ f) × (b ≡ s)
    same_pair a b path a_at b_at = (
      same_at_position c a f path.among.0 in_f (a_at ∙ sym f_at),
      same_at_position c b s path.among.1.0 in_s (b_at ∙ sym s_at),
    )

    pub pair_key : sort_key c (f ∷ s ∷ []) ≡ 2 ∷ i ∷ j ∷ []
    pair_key = λ k. 2 ∷ f_at k ∷ s_at k ∷ []

    pub pair_before : is_same_asset f s ≡ false → Before (2 ∷ i ∷ (j + 1) ∷ []) (f ∷ s ∷ [])
    pair_before other =
        (pair_is_path f s in_f in_s other, by_second (at f) (at s) i (j + 1) f_at (omega (arith, s_at)))

    pub pairs_only : (q : List Asset) → Before (2 ∷ i ∷ (j + 1) ∷ []) q
        → Before (2 ∷ i ∷ j ∷ []) q ⊎ (q ≡ f ∷ s ∷ [])
    pairs_only =
        pairs_either i j (λ q. Before (2 ∷ i ∷ j ∷ []) q ⊎ (q ≡ f ∷ s ∷ [])) (λ q h. inl h)
        (λ a b path a_at b_at. let e = same_pair a b path a_at b_at in inr (λ k. e.0 k ∷ e.1 k ∷ []))

    -- one asset twice is no path
    pub pairs_skipped : is_same_asset f s ≡ true → (q : List Asset) → Before (2 ∷ i ∷ (j + 1) ∷ []) q
        → Before (2 ∷ i ∷ j ∷ []) q
    pairs_skipped same =
        pairs_either i j (Before (2 ∷ i ∷ j ∷ [])) (λ q h. h)
        (λ a b path a_at b_at. let e = same_pair a b path a_at b_at in
        no (sym (are_apart a b path) ∙ (λ k. is_same_asset (e.0 k) (e.1 k)) ∙ same))

  -- ---- all of them

  pub all_begin : (q : List Asset) → Before (2 ∷ []) q → Before (2 ∷ 0 ∷ []) q
  all_begin = by_cases (2 ∷ []) (Before (2 ∷ 0 ∷ [])) (λ h. (h.0, refl)) (λ a h. (h.0, refl)) (λ a b h. no h.1)

  pub all_begun : (q : List Asset) → Before (2 ∷ 0 ∷ []) q → Before (2 ∷ []) q
  all_begun =
      by_cases (2 ∷ 0 ∷ []) (Before (2 ∷ [])) (λ h. (h.0, refl)) (λ a h. (h.0, refl))
      (λ a b h. let below = below_limit (at a) 0 Greater refl h.1 in absurd (omega (arith, below)))

  pub all_end : (q : List Asset) → Before (2 ∷ length c ∷ []) q → IsPath c q
  all_end q h = h.0

  pub all_ended : (q : List Asset) → IsPath c q → Before (2 ∷ length c ∷ []) q
  all_ended q h =
      by_length (λ q. IsPath c q → Before (2 ∷ length c ∷ []) q) (λ h. (h, refl)) (λ a h. (h, refl))
      (λ a b h. (h, below_decides (at a) (length c) Greater (position_below c a h.among.0))) q h.short h
