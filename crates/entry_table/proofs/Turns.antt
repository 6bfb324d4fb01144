-- Changes that put each value of a row.
use Rattle.entry_table.proofs.Prelude.{◌≡◌, true, false, cond, List, [], ◌∷◌, Option, Some, refl, sym, ap}
use Rattle.entry_table.proofs.Prelude.{subst, ◌∙◌, length, ◌≤◌, arith, unwrap_or, option_or}
use Rattle.entry_table.proofs.Prelude.{eq_by_cmp, find, LedgerKey, key_cmp}
use Rattle.entry_table.proofs.Prelude.{keys_total, all_put, all_changed, rising_all, find_all, putting}
use Rattle.entry_table.proofs.Prelude.{IsOverlaid}
use Rattle.entry_table.proofs.Walks.{both, first, second, Sorted, Above}

pub nothing_left : {X : Type 0} (xs : List X) → length xs ≤ 0 → xs ≡ []
nothing_left [] h = refl
nothing_left (x ∷ xs) h = absurd (omega arith)

module _ {V : Type 0} where
  pub putting_above : (k : LedgerKey) (row : List (LedgerKey × V)) → Above k row → Above k (putting row)
  putting_above k [] h = tt
  putting_above k (x ∷ xs) h = both _ _ (first _ _ h) (putting_above k xs (second _ _ h))

  pub putting_sorted : (row : List (LedgerKey × V)) → Sorted row → Sorted (putting row)
  putting_sorted [] h = tt
  putting_sorted (x ∷ xs) h = both _ _ (putting_above x.0 xs (first _ _ h)) (putting_sorted xs (second _ _ h))

  find-putting : (q : LedgerKey) (row : List (LedgerKey × V)) (o : Option V)
      → unwrap_or (find key_cmp q (putting row)) o ≡ option_or (find key_cmp q row) o
  find-putting q [] o = refl
  find-putting q (x ∷ xs) o =
      elim (eq_by_cmp key_cmp q x.0) as (λ b. unwrap_or (cond b (Some (Some x.1)) (find key_cmp q (putting xs))) o
      ≡ option_or (cond b (Some x.1) (find key_cmp q xs)) o) [ true ↦ refl | false ↦ find-putting q xs o ]

  pub all_putting : (row : List (LedgerKey × V)) → all_put (putting row) ≡ row
  all_putting [] = refl
  all_putting (x ∷ xs) = ap (λ r. x ∷ r) (all_putting xs)

  pub overlaid : (older newer all : List (LedgerKey × V)) → all ≡ all_changed key_cmp (putting newer) older
      → Sorted older → IsOverlaid older newer all
  overlaid older newer all is s =
      subst (IsOverlaid older newer) (sym is) (record {
        rises = rising_all keys_total (putting newer) older s;
        each = λ k. find_all keys_total k (putting newer) older s ∙ find-putting k newer (find key_cmp k older);
      })
