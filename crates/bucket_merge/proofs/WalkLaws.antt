-- The merge of two lists in one pass stays in the order of keys, and is the merge key by key.
use Rattle.bucket_merge.proofs.Prelude.{◌≡◌, ℕ, Bool, true, false, cond, T, List, [], ◌∷◌, Option, Some, None, refl}
use Rattle.bucket_merge.proofs.Prelude.{sym, ap, subst, ◌∙◌, option_and_then, Ordering, Less, Equal, Greater, find}
use Rattle.bucket_merge.proofs.Prelude.{is_sorted, below_all, LedgerKey, key_cmp, keys_total, Change, joined, kept}
use Rattle.bucket_merge.proofs.Prelude.{merged_change, Pair, put, rest_kept, by_order, among, walk, same_keys}
use Rattle.bucket_core.proofs.ledger_types_proofs.Booleans.{both_true, first_true, second_true}
use Rattle.std.specs.Ordering.{ordering_reverse, is_lt, is_eq, eq_by_cmp}
use Rattle.std.specs.Cmp.{tied_itself}
use Rattle.bucket_core.proofs.Keyed.{below, found_below, is_less}

abbrev pub Sorted : List Pair → Type 0
Sorted es = T (is_sorted key_cmp es)

abbrev pub Above : LedgerKey → List Pair → Type 0
Above k es = T (below_all key_cmp k es)

-- a key that is below another is below all that the other is
prefix_below : (k : LedgerKey) (x : Pair) (xs : List Pair) → key_cmp k x.0 ≡ Less → Sorted (x ∷ xs) → Above k (x ∷ xs)
prefix_below k x xs e s =
    let lt = is_less (key_cmp k x.0) e in
    both_true (is_lt (key_cmp k x.0)) (below_all key_cmp k xs) lt (below k x.0 xs lt (first_true _ _ s))

greater_turned : (k m : LedgerKey) → key_cmp k m ≡ Greater → key_cmp m k ≡ Less
greater_turned k m e = keys_total.antisymm m k ∙ ap ordering_reverse e

-- ---- going along both lists

-- What holds of the merge of two lists in order: of nothing; where the least change is an older one, whatever is newer;
-- where it is a newer one; and where both lists speak of its key.
module _ (level : ℕ) (P : List Pair → List Pair → List Pair → Type 0) (none : P [] [] [])
    (older : (x : Pair) (xs ys zs : List Pair) → Above x.0 xs → Above x.0 ys → P xs ys zs
    → P (x ∷ xs) ys (put x.0 (kept level x.1) zs))
    (newer : (y : Pair) (xs ys zs : List Pair) → Above y.0 xs → Above y.0 ys → P xs ys zs
    → P xs (y ∷ ys) (put y.0 (kept level y.1) zs))
    (same : (x y : Pair) (xs ys zs : List Pair) → key_cmp x.0 y.0 ≡ Equal → Above x.0 xs → Above y.0 ys → P xs ys zs
    → P (x ∷ xs) (y ∷ ys) (put y.0 (option_and_then (kept level) (joined x.1 y.1)) zs)) where
  along_rest : (ys : List Pair) → Sorted ys → P [] ys (rest_kept level ys)
  along_rest [] s = none
  along_rest (y ∷ ys) s = newer y [] ys (rest_kept level ys) tt (first_true _ _ s) (along_rest ys (second_true _ _ s))

  one_step : (x y : Pair) (xs ys : List Pair) → Sorted (x ∷ xs) → Sorted (y ∷ ys)
      → ((zs : List Pair) → Sorted zs → P xs zs (walk level xs zs))
      → P (x ∷ xs) ys (among level x (λ zs. walk level xs zs) ys) → (o : Ordering) → key_cmp x.0 y.0 ≡ o
      → P (x ∷ xs) (y ∷ ys) (by_order o
      (put x.0 (kept level x.1) (walk level xs (y ∷ ys)))
      (put y.0 (option_and_then (kept level) (joined x.1 y.1)) (walk level xs ys))
      (put y.0 (kept level y.1) (among level x (λ zs. walk level xs zs) ys)))
  one_step x y xs ys sx sy after others Less e =
      older x xs (y ∷ ys) (walk level xs (y ∷ ys)) (first_true _ _ sx) (prefix_below x.0 y ys e sy) (after (y ∷ ys) sy)
  one_step x y xs ys sx sy after others Equal e =
      same x y xs ys (walk level xs ys) e (first_true _ _ sx) (first_true _ _ sy) (after ys (second_true _ _ sy))
  one_step x y xs ys sx sy after others Greater e =
      newer y (x ∷ xs) ys (among level x (λ zs. walk level xs zs) ys)
      (prefix_below y.0 x xs (greater_turned x.0 y.0 e) sx) (first_true _ _ sy) others

  along_newer : (x : Pair) (xs ys : List Pair) → Sorted (x ∷ xs) → Sorted ys
      → ((zs : List Pair) → Sorted zs → P xs zs (walk level xs zs))
      → P (x ∷ xs) ys (among level x (λ zs. walk level xs zs) ys)
  along_newer x xs [] sx sy after = older x xs [] (walk level xs []) (first_true _ _ sx) tt (after [] tt)
  along_newer x xs (y ∷ ys) sx sy after =
      one_step x y xs ys sx sy after (along_newer x xs ys sx (second_true _ _ sy) after) (key_cmp x.0 y.0) refl

  pub along : (xs ys : List Pair) → Sorted xs → Sorted ys → P xs ys (walk level xs ys)
  along [] ys sx sy = along_rest ys sy
  along (x ∷ xs) ys sx sy = along_newer x xs ys sx sy (λ zs sz. along xs zs (second_true _ _ sx) sz)

-- ---- in order

put_above : (k m : LedgerKey) (o : Option Change) (zs : List Pair) → T (is_lt (key_cmp k m)) → Above k zs
    → Above k (put m o zs)
put_above k m None zs lt h = h
put_above k m (Some c) zs lt h = both_true (is_lt (key_cmp k m)) (below_all key_cmp k zs) lt h

put_sorted : (m : LedgerKey) (o : Option Change) (zs : List Pair) → Above m zs → Sorted zs → Sorted (put m o zs)
put_sorted m None zs h s = s
put_sorted m (Some c) zs h s = both_true (below_all key_cmp m zs) (is_sorted key_cmp zs) h s

-- the merge is in order, and above each key that both lists are above
pub record InOrder (xs ys zs : List Pair) : Type 0 where
  pub above : (k : LedgerKey) → Above k xs → Above k ys → Above k zs
  pub sorted : Sorted zs

tied_above : (k m : LedgerKey) (es : List Pair) → key_cmp k m ≡ Equal → Above k es → Above m es
tied_above k m es e h = subst (λ (j : LedgerKey). Above j es) (same_keys k m (ap is_eq e)) h

pub walk_in_order : (level : ℕ) (xs ys : List Pair) → Sorted xs → Sorted ys → InOrder xs ys (walk level xs ys)
walk_in_order level = along level InOrder
    (record { above = λ k a b. tt; sorted = tt })
    (λ x xs ys zs ax ay h. record {
      above = λ k a b. put_above k x.0 (kept level x.1) zs (first_true _ _ a) (h.above k (second_true _ _ a) b);
      sorted = put_sorted x.0 (kept level x.1) zs (h.above x.0 ax ay) h.sorted;
    })
    (λ y xs ys zs ax ay h. record {
      above = λ k a b. put_above k y.0 (kept level y.1) zs (first_true _ _ b) (h.above k a (second_true _ _ b));
      sorted = put_sorted y.0 (kept level y.1) zs (h.above y.0 ax ay) h.sorted;
    })
    (λ x y xs ys zs e ax ay h. let o = option_and_then (kept level) (joined x.1 y.1) in record {
      above = λ k a b. put_above k y.0 o zs (first_true _ _ b) (h.above k (second_true _ _ a) (second_true _ _ b));
      sorted = put_sorted y.0 o zs (h.above y.0 (tied_above x.0 y.0 xs e ax) ay) h.sorted;
    })

-- ---- key by key

find_put : (q k : LedgerKey) (o : Option Change) (zs : List Pair) (b : Bool) → eq_by_cmp key_cmp q k ≡ b
    → (b ≡ true → find key_cmp q zs ≡ None) → find key_cmp q (put k o zs) ≡ cond b o (find key_cmp q zs)
find_put q k None zs true e h = h refl
find_put q k None zs false e h = refl
find_put q k (Some c) zs b e h = ap (λ (t : Bool). cond t (Some c) (find key_cmp q zs)) e

-- nothing is found under a key that is below all
none_found : (q k : LedgerKey) (es : List Pair) → eq_by_cmp key_cmp q k ≡ true → Above k es
    → find key_cmp q es ≡ None
none_found q k es e h = found_below q k es (ap (key_cmp q) (sym (same_keys q k e)) ∙ tied_itself keys_total q) h

abbrev AsMerged : ℕ → List Pair → List Pair → List Pair → Type 0
AsMerged level xs ys zs =
    (q : LedgerKey) → find key_cmp q zs ≡ merged_change level (find key_cmp q xs) (find key_cmp q ys)

older_merged : (level : ℕ) (x : Pair) (xs ys zs : List Pair) (q : LedgerKey) → Above x.0 xs → Above x.0 ys
    → find key_cmp q zs ≡ merged_change level (find key_cmp q xs) (find key_cmp q ys) → (b : Bool)
    → eq_by_cmp key_cmp q x.0 ≡ b
    → find key_cmp q (put x.0 (kept level x.1) zs)
    ≡ merged_change level (cond b (Some x.1) (find key_cmp q xs)) (find key_cmp q ys)
older_merged level x xs ys zs q ax ay h true e =
    let fx = none_found q x.0 xs e ax in
    let fy = none_found q x.0 ys e ay in
    find_put q x.0 (kept level x.1) zs true e (λ _. h ∙ (λ i. merged_change level (fx i) (fy i)))
    ∙ ap (merged_change level (Some x.1)) (sym fy)
older_merged level x xs ys zs q ax ay h false e = find_put q x.0 (kept level x.1) zs false e (λ w. absurd (cc (w))) ∙ h

newer_merged : (level : ℕ) (y : Pair) (xs ys zs : List Pair) (q : LedgerKey) → Above y.0 xs → Above y.0 ys
    → find key_cmp q zs ≡ merged_change level (find key_cmp q xs) (find key_cmp q ys) → (b : Bool)
    → eq_by_cmp key_cmp q y.0 ≡ b
    → find key_cmp q (put y.0 (kept level y.1) zs)
    ≡ merged_change level (find key_cmp q xs) (cond b (Some y.1) (find key_cmp q ys))
newer_merged level y xs ys zs q ax ay h true e =
    let fx = none_found q y.0 xs e ax in
    let fy = none_found q y.0 ys e ay in
    find_put q y.0 (kept level y.1) zs true e (λ _. h ∙ (λ i. merged_change level (fx i) (fy i)))
    ∙ ap (λ (o : Option Change). merged_change level o (Some y.1)) (sym fx)
newer_merged level y xs ys zs q ax ay h false e = find_put q y.0 (kept level y.1) zs false e (λ w. absurd (cc (w))) ∙ h

same_merged : (level : ℕ) (x y : Pair) (xs ys zs : List Pair) (q : LedgerKey) → Above y.0 xs → Above y.0 ys
    → find key_cmp q zs ≡ merged_change level (find key_cmp q xs) (find key_cmp q ys) → (b : Bool)
    → eq_by_cmp key_cmp q y.0 ≡ b
    → find key_cmp q (put y.0 (option_and_then (kept level) (joined x.1 y.1)) zs)
    ≡ merged_change level (cond b (Some x.1) (find key_cmp q xs)) (cond b (Some y.1) (find key_cmp q ys))
same_merged level x y xs ys zs q ax ay h true e =
    let fx = none_found q y.0 xs e ax in
    let fy = none_found q y.0 ys e ay in
    find_put q y.0 (option_and_then (kept level) (joined x.1 y.1)) zs true e
    (λ _. h ∙ (λ i. merged_change level (fx i) (fy i)))
same_merged level x y xs ys zs q ax ay h false e =
    find_put q y.0 (option_and_then (kept level) (joined x.1 y.1)) zs false e (λ w. absurd (cc (w))) ∙ h

tied_alike : (q k m : LedgerKey) → key_cmp k m ≡ Equal → eq_by_cmp key_cmp q k ≡ eq_by_cmp key_cmp q m
tied_alike q k m e = ap (λ (j : LedgerKey). eq_by_cmp key_cmp q j) (same_keys k m (ap is_eq e))

pub walk_merges : (level : ℕ) (xs ys : List Pair) → Sorted xs → Sorted ys → AsMerged level xs ys (walk level xs ys)
walk_merges level = along level (AsMerged level)
    (λ q. refl)
    (λ x xs ys zs ax ay h q. older_merged level x xs ys zs q ax ay (h q) (eq_by_cmp key_cmp q x.0) refl)
    (λ y xs ys zs ax ay h q. newer_merged level y xs ys zs q ax ay (h q) (eq_by_cmp key_cmp q y.0) refl)
    (λ x y xs ys zs e ax ay h q.
    same_merged level x y xs ys zs q (tied_above x.0 y.0 xs e ax) ay (h q) (eq_by_cmp key_cmp q y.0) refl
    ∙ ap (λ (b : Bool). merged_change level (cond b (Some x.1) (find key_cmp q xs))
    (cond (eq_by_cmp key_cmp q y.0) (Some y.1) (find key_cmp q ys))) (sym (tied_alike q x.0 y.0 e)))
