-- What is at an index of a row, and under its key.
use Rattle.entry_table.proofs.Prelude.{◌≡◌, ℕ, zero, suc, ◌<◌, true, false, cond, List, [], ◌∷◌, Some, refl, sym, ap}
use Rattle.entry_table.proofs.Prelude.{◌∙◌, arith, length, get_or, Ordering, Less, is_eq, eq_by_cmp, tied_itself, find}
use Rattle.entry_table.proofs.Prelude.{LedgerKey, key_cmp, keys_total, greater, same_keys}
use Rattle.entry_table.proofs.Walks.{first, second, less, Sorted, Above}

module _ {V : Type 0} where
  -- ---- by index

  below_at : (k : LedgerKey) (row : List (LedgerKey × V)) (j : ℕ) (d : LedgerKey × V) → Above k row → j < length row
      → key_cmp k (get_or row j d).0 ≡ Less
  below_at k [] j d h lt = absurd (omega arith)
  below_at k (x ∷ xs) zero d h lt = less _ (first _ _ h)
  below_at k (x ∷ xs) (suc j) d h lt = below_at k xs j d (second _ _ h) (omega arith)

  pub found_at : (row : List (LedgerKey × V)) (i : ℕ) (d : LedgerKey × V) → Sorted row → i < length row
      → find key_cmp (get_or row i d).0 row ≡ Some (get_or row i d).1
  found_at [] i d s h = absurd (omega arith)
  found_at (x ∷ xs) zero d s h =
      ap (λ (o : Ordering). cond (is_eq o) (Some x.1) (find key_cmp x.0 xs)) (tied_itself keys_total x.0)
  found_at (x ∷ xs) (suc i) d s h =
      let k = (get_or xs i d).0 in
      ap (λ (o : Ordering). cond (is_eq o) (Some x.1) (find key_cmp k xs))
      (greater keys_total x.0 k (below_at x.0 xs i d (first _ _ s) (omega arith)))
      ∙ found_at xs i d (second _ _ s) (omega arith)

  pub at_of : (row : List (LedgerKey × V)) (q : LedgerKey) (v : V) (d : LedgerKey × V) → find key_cmp q row ≡ Some v
      → (i : ℕ) × (i < length row) × (get_or row i d ≡ (q, v))
  at_of [] q v d h = absurd (cc)
  at_of (x ∷ xs) q v d h =
      elim (eq_by_cmp key_cmp q x.0) as (λ b. eq_by_cmp key_cmp q x.0 ≡ b → cond b (Some x.1) (find key_cmp q xs)
      ≡ Some v → (i : ℕ) × (i < length (x ∷ xs)) × (get_or (x ∷ xs) i d ≡ (q, v))) [
        | true ↦ λ e is. let key : x.0 ≡ q = sym (same_keys q x.0 e) in let value : x.1 ≡ v = cc in
            (0, omega arith, λ i. (key i, value i))
        | false ↦ λ e is. let r = at_of xs q v d is in (suc r.0, omega (arith, r.1), r.2)
      ] refl h
