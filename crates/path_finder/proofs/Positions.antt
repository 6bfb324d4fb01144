-- Positions of assets among distinct ones.
use Rattle.std.proofs.lemmas.Bool.{cases_lt}
use Rattle.std.proofs.lemmas.List.Sums.{position_or_len_is, passes_at_first, fails_before_first}
use Rattle.std.proofs.lemmas.Map.Keys.{apart_from_distinct}
use Rattle.path_finder.proofs.Prelude.{◌≡◌, sym, ap, ◌∙◌, ℕ, ◌<◌, ◌≤◌, List, length, get_or, true≢false}
use Rattle.path_finder.proofs.Prelude.{arith, Contains, IsDistinct, same_assets, Asset, is_same_asset, position_in}
use Rattle.path_finder.proofs.Prelude.{same_equivalence, ◌⊎◌, inl, inr}

-- the asset at a position has it
pub position_at : (c : List Asset) → IsDistinct is_same_asset c → (i : ℕ) (d : Asset) → i < length c
    → position_in c (get_or c i d) ≡ i
position_at c once i d below =
    position_or_len_is (is_same_asset (get_or c i d)) c i d (omega arith)
    (λ k before. same_equivalence.symm (get_or c i d) (get_or c k d)
    ∙ apart_from_distinct is_same_asset c k i d once before below)
    (λ _. same_equivalence.refl (get_or c i d))

-- at its position is the asset itself
at_position : (c : List Asset) (a d : Asset) → position_in c a < length c → get_or c (position_in c a) d ≡ a
at_position c a d below = sym (same_assets a _ (passes_at_first (is_same_asset a) c d below))

-- what is contained has a position
pub position_below : (c : List Asset) (a : Asset) → Contains c a → position_in c a < length c
position_below c a (k, below, at) = by (cases_lt (position_in c a) (length c))
  where
    no_position : length c ≤ position_in c a → ⊥
    no_position none = true≢false
        (sym (ap (is_same_asset a) at ∙ same_equivalence.refl a)
        ∙ fails_before_first (is_same_asset a) c k a (omega (arith, none, below)))

    by : (position_in c a < length c) ⊎ (length c ≤ position_in c a) → position_in c a < length c
    by (inl it) = it
    by (inr none) = absurd (no_position none)

-- two assets with one position are one
pub same_at_position : (c : List Asset) (a b : Asset) → Contains c a → Contains c b
    → position_in c a ≡ position_in c b → a ≡ b
same_at_position c a b in_a in_b e =
    sym (at_position c a a (position_below c a in_a)) ∙ ap (λ n. get_or c n a) e
    ∙ at_position c b a (position_below c b in_b)
