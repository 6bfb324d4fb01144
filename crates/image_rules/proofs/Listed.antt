-- The entries of a map by their indices.
use Rattle.image_rules.proofs.Prelude as prelude
use prelude.{◌≡◌, inl, inr, refl, sym, ap, subst, ◌∙◌, ℕ, zero, suc, ◌+◌, ◌<◌, ◌≤◌, true, false, cond, T, [], ◌∷◌, map}
use prelude.{length, take, Some, None, add-one, arith, ints, take_all, ℤ, pos, ◌+ℤ◌, slice_get, is_eq, eq_by_cmp, Equal}
use prelude.{tied_itself, get, entries, values, entries_sorted, get-entries, LedgerEntry, LedgerKey, key_of, key_cmp}
use prelude.{keys_total, EntryMap, Weight, sum_over, total, EachEntry, Pairs, found_later}
use Rattle.std.proofs.lemmas.Bool.{cases_eq}
use Rattle.std.specs.FinMap.Entries.{find, is_sorted, below_all}
use Rattle.ledger_types.proofs.Booleans.{first_true, is_lt_Less, second_true}

-- ---- lists in the order of keys

-- a key that ties with one below all is not among them
missing : (k q : LedgerKey) (es : Pairs) → key_cmp k q ≡ Equal → T (below_all key_cmp q es) → find key_cmp k es ≡ None
missing k q [] tied h = refl
missing k q (e ∷ es) tied h =
    ap (λ r. cond (is_eq r) (Some e.1) (find key_cmp k es))
    (keys_total.congr k q e.0 tied ∙ is_lt_Less _ (first_true _ _ h))
    ∙ missing k q es tied (second_true _ _ h)

-- the key of what is at an index
key_in : (es : Pairs) (i : ℕ) (e : LedgerEntry) → T (is_sorted key_cmp es)
    → slice_get (map (λ p. p.1) es) i ≡ Some e → (k : LedgerKey) × (find key_cmp k es ≡ Some e)
key_in [] i e sorted at = absurd (cc)
key_in (p ∷ es) zero e sorted at =
    (p.0, ap (λ r. cond (is_eq r) (Some p.1) (find key_cmp p.0 es)) (tied_itself keys_total p.0) ∙ at)
key_in (p ∷ es) (suc i) e sorted at =
    let rest = key_in es i e (second_true _ _ sorted) at in
    (rest.0, found_later p es rest.0 e (first_true _ _ sorted) rest.1)

-- the index of what is under a key
index_in : (es : Pairs) (k : LedgerKey) (e : LedgerEntry) → find key_cmp k es ≡ Some e
    → (i : ℕ) × (i < length es) × (slice_get (map (λ p. p.1) es) i ≡ Some e)
index_in [] k e there = absurd (cc)
index_in (p ∷ es) k e there =
    elim (eq_by_cmp key_cmp k p.0) as (λ b. cond b (Some p.1) (find key_cmp k es) ≡ Some e
    → (i : ℕ) × (i < length (p ∷ es)) × (slice_get (map (λ q. q.1) (p ∷ es)) i ≡ Some e)) [
      | true ↦ λ is. (0, omega arith, is)
      | false ↦ λ is. let at = index_in es k e is in let lt = at.1 in (suc at.0, omega arith, at.2)
    ] there

-- ---- maps

pub key_at : (m : EntryMap) (i : ℕ) (e : LedgerEntry) → slice_get (values m) i ≡ Some e
    → (k : LedgerKey) × (get m k ≡ Some e)
key_at m i e at =
    let found = key_in (entries m) i e (entries_sorted m) at in
    (found.0, get-entries m found.0 ∙ found.1)

-- what is at an index is under its own key
pub exists_at : (m : EntryMap) (i : ℕ) (e : LedgerEntry) → EachEntry (λ k x. key_of x ≡ k) m
    → slice_get (values m) i ≡ Some e → get m (key_of e) ≡ Some e
exists_at m i e keyed at =
    let found = key_at m i e at in
    ap (get m) (keyed found.0 e found.1) ∙ found.1

-- what holds of the entries before an index
abbrev pub HoldsBefore : (LedgerEntry → Type 0) → EntryMap → ℕ → Type 0
HoldsBefore P m i = (j : ℕ) (e : LedgerEntry) → j < i → slice_get (values m) j ≡ Some e → P e

pub holds_none : (P : LedgerEntry → Type 0) (m : EntryMap) → HoldsBefore P m 0
holds_none P m j e lt at = absurd (omega arith)

pub holds_more : (P : LedgerEntry → Type 0) (m : EntryMap) (i : ℕ) (e : LedgerEntry) → HoldsBefore P m i
    → slice_get (values m) i ≡ Some e → P e → HoldsBefore P m (i + 1)
holds_more P m i e before at here j x lt there = elim (cases_eq i j) [
  | inl same ↦ subst P (let is : e ≡ x = cc in is) here
  | inr apart ↦ before j x (omega arith) there
]

pub holds_of_all : (P : LedgerEntry → Type 0) (m : EntryMap) (n : ℕ) → length (entries m) ≤ n → HoldsBefore P m n
    → EachEntry (λ k e. P e) m
holds_of_all P m n le all k e there =
    let at = index_in (entries m) k e (sym (get-entries m k) ∙ there) in
    let lt = at.1 in
    all at.0 e (omega arith) at.2

pub holds_at : (P : LedgerEntry → Type 0) (m : EntryMap) (i : ℕ) (e : LedgerEntry) → EachEntry (λ k x. P x) m
    → slice_get (values m) i ≡ Some e → P e
holds_at P m i e all at =
    let found = key_at m i e at in
    all found.0 e found.1

-- ---- sums

one_first : (a b : ℤ) → a ≡ b → (a +ℤ pos 0) ≡ (pos 0 +ℤ b)
one_first a b is = omega (arith, ints)

one_later : (a s t v : ℤ) → s ≡ (t +ℤ v) → (a +ℤ s) ≡ ((a +ℤ t) +ℤ v)
one_later a s t v is = omega (arith, ints)

more_in : (f : Weight) (es : Pairs) (i : ℕ) (e : LedgerEntry) → slice_get (map (λ p. p.1) es) i ≡ Some e
    → sum_over f (take (suc i) es) ≡ (sum_over f (take i es) +ℤ f e)
more_in f [] i e at = absurd (cc)
more_in f (p ∷ es) zero e at = one_first (f p.1) (f e) (ap f (let same : p.1 ≡ e = cc in same))
more_in f (p ∷ es) (suc i) e at = one_later (f p.1) (sum_over f (take (suc i) es)) (sum_over f (take i es)) (f e)
    (more_in f es i e at)

-- the sum over the entries before an index
abbrev pub sum_before : Weight → EntryMap → ℕ → ℤ
sum_before f m i = sum_over f (take i (entries m))

pub sum_more : (f : Weight) (m : EntryMap) (i : ℕ) (e : LedgerEntry) → slice_get (values m) i ≡ Some e
    → sum_before f m (i + 1) ≡ (sum_before f m i +ℤ f e)
sum_more f m i e at = ap (sum_before f m) (add-one i) ∙ more_in f (entries m) i e at

pub sum_of_all : (f : Weight) (m : EntryMap) (n : ℕ) → length (entries m) ≤ n → sum_before f m n ≡ total f m
unfolding total
sum_of_all f m n le = ap (sum_over f) (take_all n (entries m) le)
