-- Sums over the entries of a map, after an entry is put or taken away, and beside another sum.
use Rattle.sponsor_laws.proofs.Prelude.{◌≡◌, refl, sym, ap, subst, ◌∙◌, ℕ, ◌+◌, ◌≤◌, Bool, true, false, cond, ◌&&◌, T}
use Rattle.sponsor_laws.proofs.Prelude.{List, [], ◌∷◌, Option, Some, None, arith, eq_by_cmp, is_eq, is_lt, sum_by}
use Rattle.sponsor_laws.proofs.Prelude.{FinMap, get, entries, entries_sorted, entries-insert, get-entries, get-insert}
use Rattle.sponsor_laws.proofs.Prelude.{get-remove, same_map, IsAntisymmetric, sum_by-cons}
use Rattle.std.specs.declared.cmp.Ordering.{Ordering}
use Rattle.std.specs.declared.cmp.Ordering.TheVariants.{Less, Equal, Greater}
use Rattle.std.specs.Cmp.{IsTotalOrder, tied_itself, Equal-is, eq_by_cmp_equiv}
use Rattle.std.specs.FinMap.{insert, remove}
use Rattle.std.specs.FinMap.Entries.{find, put, below_all, by_order, is_sorted}
use Rattle.sponsor_rules.proofs.ledger_types_proofs.Booleans.{both_true, first_true, is_lt_Less, second_true}

-- ---- a list in the order of keys

put_later : (new old first after before part v : ℕ) → new ≡ first + after → old ≡ first + before
    → after + part ≡ before + v → new + part ≡ old + v
put_later new old first after before part v now was rest = omega arith

zero_from_zero_parts : (all first rest : ℕ) → all ≡ first + rest → first ≡ 0 → rest ≡ 0 → all ≡ 0
zero_from_zero_parts all first rest is none nothing = omega arith

no_higher : (low low_first low_rest high high_first high_rest : ℕ) → low ≡ low_first + low_rest
    → high ≡ high_first + high_rest → low_first ≤ high_first → low_rest ≤ high_rest → low ≤ high
no_higher low low_first low_rest high high_first high_rest low_is high_is first rest = omega arith

-- what is at a key, or 0
abbrev pub part_of : {X : Type 0} → (X → ℕ) → Option X → ℕ
part_of f None = 0
part_of f (Some x) = f x

module _ {K X : Type 0} {R : K → K → Ordering} (o : IsTotalOrder R) (f : X → ℕ) where
  abbrev pub sum_of : List (K × X) → ℕ
  sum_of es = sum_by (λ e. f e.1) es

  not_below : (q : K) (es : List (K × X)) → T (below_all R q es) → find R q es ≡ None
  not_below q [] h = refl
  not_below q (e ∷ es) h = ap (λ r. cond (is_eq r) (Some e.1) (find R q es)) (is_lt_Less _ (first_true _ _ h))
      ∙ not_below q es (second_true _ _ h)

  below_less : (x y : K) (es : List (K × X)) → R x y ≡ Less → T (below_all R y es) → T (below_all R x es)
  below_less x y [] p h = tt
  below_less x y (e ∷ es) p h = subst (λ r. T (is_lt r && below_all R x es))
      (sym (o.trans x y e.0 p (is_lt_Less _ (first_true _ _ h)))) (below_less x y es p (second_true _ _ h))

  sum_of-put : (k : K) (v : X) (es : List (K × X)) → T (is_sorted R es)
      → sum_of (put R k v es) + part_of f (find R k es) ≡ sum_of es + f v
  sum_of-put k v [] h = omega arith
  sum_of-put k v (e ∷ es) h =
      let cons = sum_by-cons (λ (x : K × X). f x.1) e es in
      elim (R k e.0) as (λ r. R k e.0 ≡ r → sum_of (by_order r ((k, v) ∷ e ∷ es) ((e.0, v) ∷ es)
      (e ∷ put R k v es)) + part_of f (cond (is_eq r) (Some e.1) (find R k es)) ≡ sum_of (e ∷ es) + f v) [
        | Less ↦ λ p.
            let none : part_of f (find R k es) ≡ 0 = ap (part_of f)
            (not_below k es (below_less k e.0 es p (first_true _ _ h))) in
            let all = sum_by-cons (λ (x : K × X). f x.1) (k, v) (e ∷ es) in
            omega arith
        | Equal ↦ λ p. let here = sum_by-cons (λ (x : K × X). f x.1) (e.0, v) es in omega arith
        | Greater ↦ λ p. put_later _ _ _ _ _ _ _ (sum_by-cons (λ (x : K × X). f x.1) e (put R k v es)) cons
            (sum_of-put k v es (second_true _ _ h))
      ] refl

  below_tied : (x y : K) (es : List (K × X)) → R x y ≡ Equal → T (below_all R y es) → T (below_all R x es)
  below_tied x y [] p h = tt
  below_tied x y (e ∷ es) p h = subst (λ r. T (is_lt r && below_all R x es)) (sym (o.congr x y e.0 p))
      (both_true _ _ (first_true _ _ h) (below_tied x y es p (second_true _ _ h)))

  found_first : (e : K × X) (es : List (K × X)) → find R e.0 (e ∷ es) ≡ Some e.1
  found_first e es = ap (λ r. cond (is_eq r) (Some e.1) (find R e.0 es)) (tied_itself o e.0)

  found_later : (e : K × X) (es : List (K × X)) (k : K) (x : X) → T (below_all R e.0 es) → find R k es ≡ Some x
      → find R k (e ∷ es) ≡ Some x
  found_later e es k x h there = elim (R k e.0) as (λ r. R k e.0 ≡ r
      → cond (is_eq r) (Some e.1) (find R k es) ≡ Some x) [
        | Less ↦ λ p. there
        | Equal ↦ λ p. absurd (let missing = not_below k es (below_tied k e.0 es p h) in cc)
        | Greater ↦ λ p. there
      ] refl

  sum_of-none : (es : List (K × X)) → T (is_sorted R es) → ((k : K) (x : X) → find R k es ≡ Some x → f x ≡ 0)
      → sum_of es ≡ 0
  sum_of-none [] h none = refl
  sum_of-none (e ∷ es) h none = zero_from_zero_parts _ _ _ (sum_by-cons (λ (x : K × X). f x.1) e es)
      (none e.0 e.1 (found_first e es))
      (sum_of-none es (second_true _ _ h) (λ k x there. none k x (found_later e es k x (first_true _ _ h) there)))

  sum_of-at_most : (g : X → ℕ) (es : List (K × X)) → T (is_sorted R es)
      → ((k : K) (x : X) → find R k es ≡ Some x → f x ≤ g x) → sum_of es ≤ sum_by (λ e. g e.1) es
  sum_of-at_most g [] h le = omega arith
  sum_of-at_most g (e ∷ es) h le = no_higher _ _ _ _ _ _ (sum_by-cons (λ (x : K × X). f x.1) e es)
      (sum_by-cons (λ (x : K × X). g x.1) e es)
      (le e.0 e.1 (found_first e es))
      (sum_of-at_most g es (second_true _ _ h) (λ k x there. le k x
      (found_later e es k x (first_true _ _ h) there)))

-- ---- maps

module _ {K X : Type 0} {R : K → K → Ordering} (o : IsTotalOrder R) (f : X → ℕ) where
  abbrev pub sum_in : FinMap R X → ℕ
  sum_in m = sum_by (λ e. f e.1) (entries m)

  pub sum_in-insert : (m : FinMap R X) (k : K) (v : X) → sum_in (insert m k v) + part_of f (get m k) ≡ sum_in m + f v
  sum_in-insert m k v =
      let is = sum_of-put o f k v (entries m) (entries_sorted m) in
      let new : sum_in (insert m k v) ≡ sum_of o f (put R k v (entries m)) =
      ap (sum_by (λ e. f e.1)) (entries-insert o m k v) in
      let old : part_of f (get m k) ≡ part_of f (find R k (entries m)) = ap (part_of f) (get-entries m k) in
      omega arith

  pub sum_in-none : (m : FinMap R X) → ((k : K) (x : X) → get m k ≡ Some x → f x ≡ 0) → sum_in m ≡ 0
  sum_in-none m none = sum_of-none o f (entries m) (entries_sorted m) (λ k x there. none k x (get-entries m k ∙ there))

  pub sum_in-at_most : (g : X → ℕ) (m : FinMap R X) → ((k : K) (x : X) → get m k ≡ Some x → f x ≤ g x)
      → sum_in m ≤ sum_by (λ e. g e.1) (entries m)
  sum_in-at_most g m le = sum_of-at_most o f g (entries m) (entries_sorted m) (λ k x there. le k x (get-entries m k
      ∙ there))

  taken_back : (b : Bool) (x y : Option X) → (b ≡ true → x ≡ y) → cond b x (cond b None y) ≡ y
  taken_back true x y h = h refl
  taken_back false x y h = refl

  put_back : IsAntisymmetric R → (m : FinMap R X) (k : K) (v : X) → get m k ≡ Some v → insert (remove m k) k v ≡ m
  put_back exact m k v there = same_map o exact _ _ (λ q. get-insert o (remove m k) k v q
      ∙ ap (cond (eq_by_cmp R q k) (Some v)) (get-remove o m k q)
      ∙ taken_back (eq_by_cmp R q k) (Some v) (get m q) (λ tied. sym (ap (get m) (exact q k ((Equal-is (R q k)).0 tied))
      ∙ there)))

  pub sum_in-remove : IsAntisymmetric R → (m : FinMap R X) (k : K) (v : X) → get m k ≡ Some v
      → sum_in (remove m k) + f v ≡ sum_in m
  sum_in-remove exact m k v there =
      let back : sum_in (insert (remove m k) k v) ≡ sum_in m = ap sum_in (put_back exact m k v there) in
      let none : get (remove m k) k ≡ None = get-remove o m k k
      ∙ ap (λ b. cond b None (get m k)) ((eq_by_cmp_equiv o).refl k) in
      let no_part : part_of f (get (remove m k) k) ≡ 0 = ap (part_of f) none in
      let is = sum_in-insert (remove m k) k v in
      omega arith
