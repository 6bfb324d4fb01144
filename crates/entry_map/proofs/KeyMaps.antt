-- A tree under keys is a finite map in the stated order of keys.
use Rattle.entry_map.proofs.Prelude as prelude
use prelude.{rules, ◌≡◌, ◌≢◌, refl, sym, ap, subst, ◌∙◌, Bool, true, false, cond, List, [], ◌∷◌, Option, Some, None}
use prelude.{MatchOption, IsSome, Bor, ◌||◌, ◌⊎◌, ◌++◌, inl, inr, All, Ordering, Less, Greater, is_gt, eq_by_cmp}
use prelude.{eq_by_cmp_equiv, AllByRecursion, IsDistinct, list_any, is_some, option_or, get, insert, contains_key, find}
use prelude.{from_entries, get-from_entries, get-insert, same_map, is_some-find, All-cons, IsDistinct-from_sorted}
use prelude.{lookup, keys_of, LedgerKey, key_cmp, keys_compared, keys_total, keys_exact, KeyedMap, NoneAbove, IsLeastAt}
use prelude.{AreRising, AreKeysOf, same_keys}
use Rattle.std.specs.declared.ops.Bound.TheVariants.{Excluded, Unbounded}
use Rattle.std.specs.List.Sorted.{IsStrictlySortedBy}
use Rattle.std.proofs.lemmas.Map.Made.{update_all_distinct}
use Rattle.std.proofs.lemmas.Map.Views.{list_any-from_Contains, Contains-from_any}
use Rattle.std.specs.Map.Iter.{TakesFirst, deref_pair}
use Rattle.std.specs.BTreeMap as tree
use Rattle.std.specs.BTreeMap.{BTreeMap, is_at}
use Rattle.std.specs.BTreeMap.Range.{IsRangeOf}
use Rattle.ledger_types.specs.contracts.key.LedgerKeyOrd.TheImpl as keys

-- the derived order
abbrev pub derived : LedgerKey → LedgerKey → Ordering
derived = (keys.cmp-value).it

pub derived_is : derived ≡ key_cmp
derived_is = λ i a b. keys_compared a b i

pub find_lookup : {K X : Type 0} (R : K → K → Ordering) (q : K) (es : List (K × X))
    → find R q es ≡ lookup (is_at (R q)) es
find_lookup R q [] = refl
find_lookup R q (e ∷ es) = ap (cond (eq_by_cmp R q e.0) (Some e.1)) (find_lookup R q es)

abbrev pub seen : {V : Type 0} → BTreeMap LedgerKey V → KeyedMap V
seen m = from_entries m.entries

pub get-seen : {V : Type 0} (m : BTreeMap LedgerKey V) (q : LedgerKey) → get (seen m) q ≡ tree.get key_cmp m q
get-seen m q = get-from_entries keys_total m.entries q ∙ find_lookup key_cmp q m.entries

pub get-derived : {V : Type 0} (m : BTreeMap LedgerKey V) (q : LedgerKey) → tree.get derived m q ≡ get (seen m) q
get-derived m q = ap (λ c. tree.get c m q) derived_is ∙ sym (get-seen m q)

pub seen_inserted : {V : Type 0} (m n : BTreeMap LedgerKey V) (k : LedgerKey) (v : V)
    → tree.Updates derived m n k (Some v) → seen n ≡ insert (seen m) k v
seen_inserted m n k v u =
    let stated = subst (λ c. tree.Updates c m n k (Some v)) derived_is u in
    same_map keys_total keys_exact _ _ (λ q. get-seen n q ∙ stated.0 q
    ∙ ap (cond (eq_by_cmp key_cmp k q) (Some v)) (sym (get-seen m q))
    ∙ ap (λ b. cond b (Some v) (get (seen m) q)) ((eq_by_cmp_equiv keys_total).symm k q)
    ∙ sym (get-insert keys_total (seen m) k v q))

there_is : {V : Type 0} (o : Option V) → o ≢ None → IsSome o
there_is None h = absurd (h refl)
there_is (Some v) h = refl

pub not_greater : (o : Ordering) → is_gt o ≡ false → o ≢ Greater
not_greater o h e = cc (ap is_gt e)

pub next_seen : {V : Type 0} (m : BTreeMap LedgerKey V) (k : LedgerKey) (r t : List (LedgerKey × V)) (o : Option
    (Bor LedgerKey × Bor V))
    → IsRangeOf derived (Excluded k) Unbounded m r → TakesFirst deref_pair r o t
    → MatchOption o (NoneAbove (seen m) k) (λ p. IsLeastAt (seen m) k p.0.now p.1.now)
next_seen m k r t None range first =
    let stated = subst (λ c. IsRangeOf c (Excluded k) Unbounded m r) derived_is range in
    λ q above. get-seen m q ∙ stated.5 first.0 q (above, tt)
next_seen m k r t (Some p) range first =
    let stated = subst (λ c. IsRangeOf c (Excluded k) Unbounded m r) derived_is range in
    let here = subst (λ es. IsRangeOf key_cmp (Excluded k) Unbounded m es) first stated in
    record {
      there = get-seen m p.0.now ∙ here.1.1;
      above = here.1.0.0;
      least_of = λ q above some. not_greater _ (here.2 q (above, tt) (there_is _ (λ e. some (get-seen m q ∙ e))));
    }

-- ---- one map put over another

pub or_none : {V : Type 0} (o : Option V) → option_or o None ≡ o
or_none None = refl
or_none (Some v) = refl

pub or_or : {V : Type 0} (l i o : Option V) → option_or l (option_or i o) ≡ option_or (option_or l i) o
or_or None i o = refl
or_or (Some v) i o = refl

inserts_distinct : {V : Type 0} (m n : BTreeMap LedgerKey V) (es : List (LedgerKey × V))
    → tree.InsertsAll key_cmp m es n → IsDistinct (eq_by_cmp key_cmp) (keys_of es) → (q : LedgerKey)
    → get (seen n) q ≡ option_or (lookup (eq_by_cmp key_cmp q) es) (get (seen m) q)
inserts_distinct m n es u apart q = get-seen n q ∙ u.0 q
    ∙ update_all_distinct (eq_by_cmp_equiv keys_total) (eq_by_cmp key_cmp) (λ x y. refl) (tree.get key_cmp m) es q apart
    ∙ ap (option_or (lookup (eq_by_cmp key_cmp q) es)) (sym (get-seen m q))

pub get-absorbed : {V : Type 0} (m other n : BTreeMap LedgerKey V) → tree.InsertsAll derived m other.entries n
    → tree.IsOrdered derived other → (q : LedgerKey)
    → get (seen n) q ≡ option_or (get (seen other) q) (get (seen m) q)
get-absorbed m other n u sorted q =
    let stated = subst (λ c. tree.InsertsAll c m other.entries n) derived_is u in
    let ordered = subst (λ c. tree.IsOrdered c other) derived_is sorted in
    inserts_distinct m n other.entries stated (IsDistinct-from_sorted key_cmp _ ordered) q
    ∙ ap (λ o. option_or o (get (seen m) q)) (sym (get-seen other q))

-- the map of pairs with distinct keys
pub seen_from_pairs : {V : Type 0} (es : List (LedgerKey × V)) (n : BTreeMap LedgerKey V)
    → tree.IsFromIterResult derived es n → IsDistinct (eq_by_cmp key_cmp) (keys_of es)
    → seen n ≡ from_entries es
seen_from_pairs es n made apart =
    let stated = subst (λ c. tree.IsFromIterResult c es n) derived_is made in
    same_map keys_total keys_exact _ _ (λ q. get-seen n q ∙ stated.0 q
    ∙ update_all_distinct (eq_by_cmp_equiv keys_total) (eq_by_cmp key_cmp) (λ x y. refl) (λ _. None) es q apart
    ∙ or_none (lookup (eq_by_cmp key_cmp q) es)
    ∙ sym (get-from_entries keys_total es q ∙ find_lookup key_cmp q es))

lookup-prefix : {K X : Type 0} (test : K → Bool) (es fs : List (K × X)) (v : X) → lookup test es ≡ Some v
    → lookup test (es ++ fs) ≡ Some v
lookup-prefix test [] fs v h = cc
lookup-prefix test (e ∷ es) fs v h =
    elim (test e.0) as (λ b. cond b (Some e.1) (lookup test es) ≡ Some v
    → cond b (Some e.1) (lookup test (es ++ fs)) ≡ Some v) [
      | true ↦ λ found. found
      | false ↦ λ found. lookup-prefix test es fs v found
    ] h

keys_prefix : {K X : Type 0} (P : K → Type 0) (es fs : List (K × X)) → AllByRecursion P (keys_of (es ++ fs))
    → AllByRecursion P (keys_of es)
keys_prefix P [] fs h = tt
keys_prefix P (e ∷ es) fs h = (h.0, keys_prefix P es fs h.1)

distinct_prefix : {K X : Type 0} (e : K → K → Bool) (es fs : List (K × X)) → IsDistinct e (keys_of (es ++ fs))
    → IsDistinct e (keys_of es)
unfolding IsDistinct
distinct_prefix e [] fs h = tt
distinct_prefix e (x ∷ es) fs h = (keys_prefix (λ y. e x.0 y ≡ false) es fs h.0, distinct_prefix e es fs h.1)

from_prefix : {V : Type 0} (o : Option V) (here there : Option V) (new : Option V) →
    ((v : V) → o ≡ Some v → there ≡ Some v) → new ≡ option_or o here → (new ≡ there) ⊎ (new ≡ here)
from_prefix None here there new more e = inr e
from_prefix (Some v) here there new more e = inl (e ∙ sym (more v refl))

pub each-absorbed : {V : Type 0} (m other n rest : BTreeMap LedgerKey V) → tree.MovesPrefix derived m other n rest
    → tree.IsOrdered derived other → (q : LedgerKey)
    → (get (seen n) q ≡ get (seen other) q) ⊎ (get (seen n) q ≡ get (seen m) q)
each-absorbed m other n rest moves sorted q =
    let stated = subst (λ c. tree.MovesPrefix c m other n rest) derived_is moves in
    let apart = subst (λ es. IsDistinct (eq_by_cmp key_cmp) (keys_of es)) stated.1 (IsDistinct-from_sorted key_cmp _
    (subst (λ c. tree.IsOrdered c other) derived_is sorted)) in
    from_prefix (lookup (eq_by_cmp key_cmp q) stated.0) _ _ _
    (λ v found. get-seen other q ∙ ap (lookup (eq_by_cmp key_cmp q)) stated.1
    ∙ lookup-prefix (eq_by_cmp key_cmp q) stated.0 rest.entries v found)
    (inserts_distinct m n stated.0 stated.2 (distinct_prefix _ stated.0 rest.entries apart) q)

-- ---- keys

pub contains-seen : {V : Type 0} (m : BTreeMap LedgerKey V) (q : LedgerKey)
    → contains_key (seen m) q ≡ list_any (eq_by_cmp key_cmp q) (tree.keys m)
contains-seen m q = ap is_some (get-from_entries keys_total m.entries q) ∙ is_some-find key_cmp q m.entries

all_of : {X : Type 0} (P : X → Type 0) (xs : List X) → AllByRecursion P xs → All P xs
all_of P [] h = search rules
all_of P (x ∷ xs) h = All-cons P x xs h.0 (all_of P xs h.1)

rising_of : (ks : List LedgerKey) → IsStrictlySortedBy key_cmp ks → AreRising ks
unfolding IsStrictlySortedBy
rising_of [] h = tt
rising_of (k ∷ ks) h = (all_of (λ q. key_cmp k q ≡ Less) ks h.0, rising_of ks h.1)

pub same_itself : (k : LedgerKey) → eq_by_cmp key_cmp k k ≡ true
same_itself k = (eq_by_cmp_equiv keys_total).refl k

pub keys-seen : {V : Type 0} (m : BTreeMap LedgerKey V) (ks : List LedgerKey) → ks ≡ tree.keys m
    → tree.IsOrdered derived m → AreKeysOf (seen m) ks
keys-seen m ks e sorted = record {
  rises = rising_of ks (subst (IsStrictlySortedBy key_cmp) (sym e) (subst (λ c. tree.IsOrdered c m) derived_is sorted));
  all = λ q. let is : contains_key (seen m) q ≡ list_any (eq_by_cmp key_cmp q) ks = contains-seen m q
      ∙ ap (list_any (eq_by_cmp key_cmp q)) (sym e) in (
        λ h. is ∙ list_any-from_Contains (eq_by_cmp_equiv keys_total) q ks h,
        λ h. Contains-from_any same_keys q ks (sym is ∙ h),
      );
}

one_more_key : {V : Type 0} (u : V) (b : Bool) (o : Option V) (r : Bool)
    → (is_some (cond b (Some u) o) || r) ≡ (is_some o || (b || r))
one_more_key u true None r = refl
one_more_key u true (Some v) r = refl
one_more_key u false o r = refl

-- a key that goes from a list into a map is in one of them before and after
pub key_moved : {V : Type 0} (q k k' : LedgerKey) (u : V) (old new : KeyedMap V) (s t : List LedgerKey)
    → new ≡ insert old k' u → k' ≡ k → s ≡ k ∷ t
    → (contains_key new q || list_any (eq_by_cmp key_cmp q) t)
    ≡ (contains_key old q || list_any (eq_by_cmp key_cmp q) s)
key_moved q k k' u old new s t put same taken =
    ap (λ m. contains_key m q || list_any (eq_by_cmp key_cmp q) t) (put ∙ ap (λ x. insert old x u) same)
    ∙ ap (λ o. is_some o || list_any (eq_by_cmp key_cmp q) t) (get-insert keys_total old k u q)
    ∙ one_more_key u (eq_by_cmp key_cmp q k) (get old q) (list_any (eq_by_cmp key_cmp q) t)
    ∙ ap (λ ks. contains_key old q || list_any (eq_by_cmp key_cmp q) ks) (sym taken)
