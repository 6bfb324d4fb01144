-- Rows whose values are taken for others: their keys stay.
use Rattle.fresh_bucket.proofs.Prelude.{◌≡◌, true, false, cond, List, [], ◌∷◌, Option, Some, None, map, option_map}
use Rattle.fresh_bucket.proofs.Prelude.{refl, sym, ap, ◌∙◌, option_or, is_lt, eq_by_cmp, find, is_sorted, below_all}
use Rattle.fresh_bucket.proofs.Prelude.{LedgerKey, key_cmp, value_at, IsOverlaid, both, first, second, Sorted, Above}

or_mapped : {V W : Type 0} (f : V → W) (a b : Option V)
    → option_map f (option_or a b) ≡ option_or (option_map f a) (option_map f b)
or_mapped f None b = refl
or_mapped f (Some v) b = refl

module _ {V W : Type 0} (f : V → W) where
  abbrev pub revalued : List (LedgerKey × V) → List (LedgerKey × W)
  revalued row = map (λ x. (x.0, f x.1)) row

  above : (k : LedgerKey) (row : List (LedgerKey × V)) → Above k row → Above k (revalued row)
  above k [] h = tt
  above k (x ∷ xs) h =
      both (is_lt (key_cmp k x.0)) (below_all key_cmp k (revalued xs)) (first _ _ h) (above k xs (second _ _ h))

  above_before : (k : LedgerKey) (row : List (LedgerKey × V)) → Above k (revalued row) → Above k row
  above_before k [] h = tt
  above_before k (x ∷ xs) h =
      both (is_lt (key_cmp k x.0)) (below_all key_cmp k xs) (first _ _ h) (above_before k xs (second _ _ h))

  pub sorted : (row : List (LedgerKey × V)) → Sorted row → Sorted (revalued row)
  sorted [] h = tt
  sorted (x ∷ xs) h = both (below_all key_cmp x.0 (revalued xs)) (is_sorted key_cmp (revalued xs))
      (above x.0 xs (first _ _ h)) (sorted xs (second _ _ h))

  pub sorted_before : (row : List (LedgerKey × V)) → Sorted (revalued row) → Sorted row
  sorted_before [] h = tt
  sorted_before (x ∷ xs) h = both (below_all key_cmp x.0 xs) (is_sorted key_cmp xs)
      (above_before x.0 xs (first _ _ h)) (sorted_before xs (second _ _ h))

  pub found : (k : LedgerKey) (row : List (LedgerKey × V))
      → value_at k (revalued row) ≡ option_map f (value_at k row)
  found k [] = refl
  found k (x ∷ xs) =
      elim (eq_by_cmp key_cmp k x.0) as (λ b. cond b (Some (f x.1)) (find key_cmp k (revalued xs))
      ≡ option_map f (cond b (Some x.1) (find key_cmp k xs))) [ true ↦ refl | false ↦ found k xs ]

  pub overlaid : (older newer all : List (LedgerKey × V)) → IsOverlaid older newer all
      → IsOverlaid (revalued older) (revalued newer) (revalued all)
  overlaid older newer all h = record {
    rises = sorted all h.rises;
    each = λ k. found k all ∙ ap (option_map f) (h.each k) ∙ or_mapped f (value_at k newer) (value_at k older)
        ∙ (λ i. option_or (sym (found k newer) i) (sym (found k older) i));
  }
