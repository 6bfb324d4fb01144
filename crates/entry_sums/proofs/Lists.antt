-- Sums over lists in the order of keys.
use Rattle.entry_sums.proofs.Prelude.{◌≡◌, refl, sym, ap, subst, ◌∙◌, cond, ◌&&◌, T, List, [], ◌∷◌, Some, None, arith}
use Rattle.entry_sums.proofs.Prelude.{ints, ℤ, pos, ◌+ℤ◌, ◌≤ℤ◌, is_eq, is_lt, find, put, is_sorted, below_all, by_order}
use Rattle.entry_sums.proofs.Prelude.{LedgerEntry, LedgerKey, key_cmp, keys_total, Weight, sum_over, part}
use Rattle.std.specs.declared.cmp.Ordering.TheVariants.{Less, Equal, Greater}
use Rattle.entry_map.proofs.Aggregates.{found_first}
use Rattle.entry_map.proofs.ledger_types_proofs.Booleans.{both_true, first_true, is_lt_Less, second_true}

abbrev pub Pairs : Type 0
Pairs = List (LedgerKey × LedgerEntry)

put_first : (v rest none : ℤ) → none ≡ pos 0 → ((v +ℤ rest) +ℤ none) ≡ (rest +ℤ v)
put_first v rest none is = omega (arith, ints)

put_here : (v old rest : ℤ) → ((v +ℤ rest) +ℤ old) ≡ ((old +ℤ rest) +ℤ v)
put_here v old rest = omega (arith, ints)

put_later : (first after before was v : ℤ) → (after +ℤ was) ≡ (before +ℤ v)
    → ((first +ℤ after) +ℤ was) ≡ ((first +ℤ before) +ℤ v)
put_later first after before was v rest = omega (arith, ints)

not_more : (a b c d : ℤ) → a ≤ℤ c → b ≤ℤ d → (a +ℤ b) ≤ℤ (c +ℤ d)
not_more a b c d first rest = omega (arith, ints)

pub not_found_below : (q : LedgerKey) (es : Pairs) → T (below_all key_cmp q es) → find key_cmp q es ≡ None
not_found_below q [] h = refl
not_found_below q (e ∷ es) h = ap (λ r. cond (is_eq r) (Some e.1) (find key_cmp q es)) (is_lt_Less _ (first_true _ _ h))
    ∙ not_found_below q es (second_true _ _ h)

below_less : (x y : LedgerKey) (es : Pairs) → key_cmp x y ≡ Less → T (below_all key_cmp y es)
    → T (below_all key_cmp x es)
below_less x y [] p h = tt
below_less x y (e ∷ es) p h = subst (λ r. T (is_lt r && below_all key_cmp x es))
    (sym (keys_total.trans x y e.0 p (is_lt_Less _ (first_true _ _ h)))) (below_less x y es p (second_true _ _ h))

below_tied : (x y : LedgerKey) (es : Pairs) → key_cmp x y ≡ Equal → T (below_all key_cmp y es)
    → T (below_all key_cmp x es)
below_tied x y [] p h = tt
below_tied x y (e ∷ es) p h = subst (λ r. T (is_lt r && below_all key_cmp x es)) (sym (keys_total.congr x y e.0 p))
    (both_true _ _ (first_true _ _ h) (below_tied x y es p (second_true _ _ h)))

pub sum_over-put : (f : Weight) (k : LedgerKey) (v : LedgerEntry) (es : Pairs) → T (is_sorted key_cmp es)
    → (sum_over f (put key_cmp k v es) +ℤ part f (find key_cmp k es)) ≡ (sum_over f es +ℤ f v)
sum_over-put f k v [] h = put_first (f v) (pos 0) (pos 0) refl
sum_over-put f k v (e ∷ es) h =
    elim (key_cmp k e.0) as (λ r. key_cmp k e.0 ≡ r
    → (sum_over f (by_order r ((k, v) ∷ e ∷ es) ((e.0, v) ∷ es) (e ∷ put key_cmp k v es)) +ℤ part f
    (cond (is_eq r) (Some e.1) (find key_cmp k es))) ≡ (sum_over f (e ∷ es) +ℤ f v)) [
      | Less ↦ λ p. put_first (f v) (sum_over f (e ∷ es)) _
          (ap (part f) (not_found_below k es (below_less k e.0 es p (first_true _ _ h))))
      | Equal ↦ λ p. put_here (f v) (f e.1) (sum_over f es)
      | Greater ↦ λ p. put_later (f e.1) _ _ _ _ (sum_over-put f k v es (second_true _ _ h))
    ] refl

pub found_later : (e : LedgerKey × LedgerEntry) (es : Pairs) (k : LedgerKey) (x : LedgerEntry)
    → T (below_all key_cmp e.0 es) → find key_cmp k es ≡ Some x → find key_cmp k (e ∷ es) ≡ Some x
found_later e es k x h there = elim (key_cmp k e.0) as (λ r. key_cmp k e.0 ≡ r
    → cond (is_eq r) (Some e.1) (find key_cmp k es) ≡ Some x) [
      | Less ↦ λ p. there
      | Equal ↦ λ p. absurd (let missing = not_found_below k es (below_tied k e.0 es p h) in cc)
      | Greater ↦ λ p. there
    ] refl

pub sum_over-at_most : (f g : Weight) (es : Pairs) → T (is_sorted key_cmp es)
    → ((k : LedgerKey) (x : LedgerEntry) → find key_cmp k es ≡ Some x → f x ≤ℤ g x) → sum_over f es ≤ℤ sum_over g es
sum_over-at_most f g [] h le = omega (arith, ints)
sum_over-at_most f g (e ∷ es) h le = not_more _ _ _ _ (le e.0 e.1 (found_first e es))
    (sum_over-at_most f g es (second_true _ _ h) (λ k x there. le k x
    (found_later e es k x (first_true _ _ h) there)))

sums_together : (a b c d s t u : ℤ) → s ≡ (t +ℤ u) → a ≡ (b +ℤ c) → (a +ℤ s) ≡ ((b +ℤ t) +ℤ (c +ℤ u))
sums_together a b c d s t u all here = omega (arith, ints)

pub sum_over-plus : (f g h : Weight) (es : Pairs) → ((e : LedgerEntry) → f e ≡ (g e +ℤ h e))
    → sum_over f es ≡ (sum_over g es +ℤ sum_over h es)
sum_over-plus f g h [] is = omega (arith, ints)
sum_over-plus f g h (e ∷ es) is = sums_together (f e.1) (g e.1) (h e.1) (pos 0) _ _ _ (sum_over-plus f g h es is)
    (is e.1)
