-- One pass over two rows, which puts the newer one over the older.
use Rattle.entry_table.proofs.Prelude.{◌≡◌, List, [], ◌∷◌, ◌++◌, Some, sym, ap, subst, ◌∙◌, append_assoc, arith}
use Rattle.entry_table.proofs.Prelude.{Ordering, Less, Equal, Greater, is_lt, below_all, by_order, LedgerKey, key_cmp}
use Rattle.entry_table.proofs.Prelude.{keys_total, changed, all_changed, turned, below_less, below_tied, putting}
use Rattle.entry_table.proofs.Prelude.{IsOverlaid, IsPassed}
use Rattle.shared_tree.proofs.Divided.{above_changed, all_new, all_past, put_first}
use Rattle.entry_table.proofs.Walks.{both, first, second, is_less, Sorted, Above}
use Rattle.entry_table.proofs.Turns.{putting_above, putting_sorted, all_putting, overlaid}

module _ {V : Type 0} where
  -- what is first in both rows, and is written
  module _ (before : List (LedgerKey × V)) (x : LedgerKey × V) (xs : List (LedgerKey × V)) (s : Sorted (x ∷ xs)) where
    module _ (y : LedgerKey × V) (ys : List (LedgerKey × V)) (t : Sorted (y ∷ ys)) where
      older_first : key_cmp x.0 y.0 ≡ Less → IsPassed (x ∷ xs) (y ∷ ys) xs (y ∷ ys) before (before ++ x ∷ [])
      older_first e =
          let above : Above x.0 (y ∷ ys) = both (is_lt (key_cmp x.0 y.0)) (below_all key_cmp x.0 ys)
          (is_less (key_cmp x.0 y.0) e) (below_less keys_total x.0 y.0 ys e (first _ _ t)) in
          record {
            same = append_assoc before (x ∷ []) (all_changed key_cmp (putting (y ∷ ys)) xs)
                ∙ ap (λ r. before ++ r) (sym (all_past keys_total [] x xs (putting (y ∷ ys)) tt
                (putting_above x.0 (y ∷ ys) above)));
            less = omega arith;
            older_rises = second _ _ s;
            newer_rises = t;
          }

      newer_instead : key_cmp x.0 y.0 ≡ Equal → IsPassed (x ∷ xs) (y ∷ ys) xs ys before (before ++ y ∷ [])
      newer_instead e =
          let later = all_changed key_cmp (putting ys) xs in
          let above = below_tied keys_total x.0 y.0 ys e (first _ _ t) in
          record {
            same = append_assoc before (y ∷ []) later ∙ ap (λ r. before ++ r) (sym (
                ap (changed key_cmp y.0 (Some y.1))
                (all_past keys_total [] x xs (putting ys) tt (putting_above x.0 ys above))
                ∙ ap (λ (o : Ordering). by_order o (x ∷ changed key_cmp y.0 (Some y.1) later) (y ∷ later)
                (y ∷ x ∷ later)) e));
            less = omega arith;
            older_rises = second _ _ s;
            newer_rises = second _ _ t;
          }

      newer_first : key_cmp x.0 y.0 ≡ Greater → IsPassed (x ∷ xs) (y ∷ ys) (x ∷ xs) ys before (before ++ y ∷ [])
      newer_first e =
          let later = all_changed key_cmp (putting ys) (x ∷ xs) in
          let lt = turned keys_total x.0 y.0 e in
          let above : Above y.0 (x ∷ xs) = both (is_lt (key_cmp y.0 x.0)) (below_all key_cmp y.0 xs)
          (is_less (key_cmp y.0 x.0) lt) (below_less keys_total y.0 x.0 xs lt (first _ _ s)) in
          record {
            same = append_assoc before (y ∷ []) later ∙ ap (λ r. before ++ r) (sym (put_first keys_total y.0 (Some y.1)
                later (above_changed keys_total y.0 (putting ys) (x ∷ xs) (putting_above y.0 ys (first _ _ t)) above)));
            less = omega arith;
            older_rises = s;
            newer_rises = second _ _ t;
          }

  -- the same of rows that are those
  module _ (older xs before after : List (LedgerKey × V)) (newer : List (LedgerKey × V)) (x : LedgerKey × V)
      (is_older : older ≡ x ∷ xs) (s : Sorted older) (t : Sorted newer) where
    older_sorted : Sorted (x ∷ xs)
    older_sorted = subst (λ (r : List (LedgerKey × V)). Sorted r) is_older s

    module _ (y : LedgerKey × V) (ys : List (LedgerKey × V)) (is_newer : newer ≡ y ∷ ys) where
      newer_sorted : Sorted (y ∷ ys)
      newer_sorted = subst (λ (r : List (LedgerKey × V)). Sorted r) is_newer t

      pub older_passed : key_cmp x.0 y.0 ≡ Less → after ≡ before ++ x ∷ []
          → IsPassed older newer xs newer before after
      older_passed e is = subst (λ (r : List (LedgerKey × V) × List (LedgerKey × V) × List (LedgerKey × V)).
          IsPassed r.0 r.1 xs r.1 before r.2) (λ i. (sym is_older i, sym is_newer i, sym is i))
          (older_first before x xs older_sorted y ys newer_sorted e)

      pub both_passed : key_cmp x.0 y.0 ≡ Equal → after ≡ before ++ y ∷ []
          → IsPassed older newer xs ys before after
      both_passed e is = subst (λ (r : List (LedgerKey × V) × List (LedgerKey × V) × List (LedgerKey × V)).
          IsPassed r.0 r.1 xs ys before r.2) (λ i. (sym is_older i, sym is_newer i, sym is i))
          (newer_instead before x xs older_sorted y ys newer_sorted e)

      pub newer_passed : key_cmp x.0 y.0 ≡ Greater → after ≡ before ++ y ∷ []
          → IsPassed older newer older ys before after
      newer_passed e is = subst (λ (r : List (LedgerKey × V) × List (LedgerKey × V) × List (LedgerKey × V)).
          IsPassed r.0 r.1 r.0 ys before r.2) (λ i. (sym is_older i, sym is_newer i, sym is i))
          (newer_first before x xs older_sorted y ys newer_sorted e)

  -- the pass ends where no value of the older row is left
  pub pass_ended : (left older newer turns before after : List (LedgerKey × V))
      → before ++ all_changed key_cmp (putting turns) left ≡ all_changed key_cmp (putting newer) older → left ≡ []
      → Sorted turns → after ≡ before ++ turns → Sorted older → IsOverlaid older newer after
  pass_ended left older newer turns before after same none t is s = overlaid older newer after
      (is ∙ ap (λ r. before ++ r) (sym (all_putting turns) ∙ all_new keys_total (putting turns) (putting_sorted turns t)
      ∙ ap (all_changed key_cmp (putting turns)) (sym none)) ∙ same) s
