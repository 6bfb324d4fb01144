-- What is above a key in the order of keys, and the offers of an account there.
use Rattle.offer_book.proofs.Prelude.{◌≡◌, ◌≢◌, refl, sym, ap, ◌∙◌, Bool, true, false, cond, ◌&&◌, T, List, [], ◌∷◌}
use Rattle.offer_book.proofs.Prelude.{Option, Some, None, Less, Equal, Greater, is_lt, is_eq, eq_by_cmp, tied_itself}
use Rattle.offer_book.proofs.Prelude.{find, entries, entries_sorted, get-entries, is_sorted, below_all, both, first}
use Rattle.offer_book.proofs.Prelude.{second, is_less, greater, turned, LedgerEntry, LedgerKey, key_of, key_cmp}
use Rattle.offer_book.proofs.Prelude.{keys_total, keys_exact, EntryMap, IsLeastAbove, IsNextAfter, above, found_first}
use Rattle.std.specs.declared.cmp.Ordering.{Ordering}
use Rattle.entry_map.proofs.shared_tree_proofs.Changed.{below_less, below_tied, none_above}

abbrev pub Pairs : Type 0
Pairs = List (LedgerKey × LedgerEntry)

-- ---- what is above a key

all_above : (k : LedgerKey) (es : Pairs) → T (below_all key_cmp k es) → above k es ≡ es
all_above k [] h = refl
all_above k (x ∷ xs) h = elim (is_lt (key_cmp k x.0)) as (λ b. T (b && below_all key_cmp k xs)
    → cond b (x ∷ above k xs) (above k xs) ≡ x ∷ xs) [
      | true ↦ λ g. ap (λ r. x ∷ r) (all_above k xs g)
      | false ↦ λ g. absurd g
    ] h

not_none : (b : Bool) (v : LedgerEntry) (o : Option LedgerEntry) → o ≢ None → cond b (Some v) o ≢ None
not_none true v o h e = absurd (cc)
not_none false v o h e = h e

pub later_none : (b : Bool) (v : LedgerEntry) (o : Option LedgerEntry) → cond b (Some v) o ≡ None → o ≡ None
later_none true v o h = absurd (cc)
later_none false v o h = h

pub skipped : (k : LedgerKey) (x : LedgerKey × LedgerEntry) (xs : Pairs) → key_cmp k x.0 ≢ Less
    → above k (x ∷ xs) ≡ above k xs
skipped k x xs h = elim (key_cmp k x.0) as (λ r. r ≢ Less → cond (is_lt r) (x ∷ above k xs) (above k xs) ≡ above k xs) [
  | Less ↦ λ no. absurd (no refl)
  | Equal ↦ λ _. refl
  | Greater ↦ λ _. refl
] h

pub taken : (k : LedgerKey) (x : LedgerKey × LedgerEntry) (xs : Pairs) → key_cmp k x.0 ≡ Less
    → above k (x ∷ xs) ≡ x ∷ above k xs
taken k x xs h = ap (λ r. cond (is_lt r) (x ∷ above k xs) (above k xs)) h

equal_not : Equal ≢ Less
equal_not e = cc

greater_not : Greater ≢ Less
greater_not e = cc

-- nothing is above a key
none_higher : (k : LedgerKey) (es : Pairs)
    → ((q : LedgerKey) → key_cmp k q ≡ Less → find key_cmp q es ≡ None) → above k es ≡ []
none_higher k [] none = refl
none_higher k (x ∷ xs) none =
    skipped k x xs (λ lt. absurd (cc (none x.0 lt, found_first x xs)))
    ∙ none_higher k xs (λ q lt. later_none (eq_by_cmp key_cmp q x.0) x.1 (find key_cmp q xs) (none q lt))

-- a key that isn't above k is below each key that is
below_higher : (k x q : LedgerKey) → key_cmp k x ≢ Less → key_cmp k q ≡ Less → key_cmp x q ≡ Less
below_higher k x q low lt = elim (key_cmp k x) as (λ r. key_cmp k x ≡ r → r ≢ Less → key_cmp x q ≡ Less) [
  | Less ↦ λ _ no. absurd (no refl)
  | Equal ↦ λ e _. sym (keys_total.congr k x q e) ∙ lt
  | Greater ↦ λ e _. keys_total.trans x k q (turned keys_total k x e) lt
] refl low

apart : (o : Ordering) → o ≡ Greater → is_eq o ≡ false
apart o e = ap is_eq e

module _ (k : LedgerKey) (e : LedgerEntry) (x : LedgerKey
    × LedgerEntry) (xs : Pairs) (h : T (is_sorted key_cmp (x ∷ xs)))
    (there : find key_cmp (key_of e) (x ∷ xs) ≡ Some e) where
  abbrev IsFirst : Type 0
  IsFirst = above k (x ∷ xs) ≡ (key_of e, e) ∷ above (key_of e) (x ∷ xs)

  found : key_cmp (key_of e) x.0 ≡ Greater → find key_cmp (key_of e) xs ≡ Some e
  found back = sym (ap (λ b. cond b (Some x.1) (find key_cmp (key_of e) xs)) (apart (key_cmp (key_of e) x.0) back))
      ∙ there

  past : key_cmp k x.0 ≢ Less → key_cmp (key_of e) x.0 ≡ Greater
      → above k xs ≡ (key_of e, e) ∷ above (key_of e) xs → IsFirst
  past low back later = skipped k x xs low ∙ later
      ∙ ap (λ r. (key_of e, e) ∷ r) (sym (skipped (key_of e) x xs (λ up. absurd (cc (up, back)))))

  some_same : (a b : LedgerEntry) → Some a ≡ Some b → a ≡ b
  some_same a b h = cc

  both_are : key_cmp k x.0 ≡ Less → x.0 ≡ key_of e → IsFirst
  both_are up same =
      let is : x.1 ≡ e = some_same x.1 e (sym (found_first x xs) ∙ ap (λ q. find key_cmp q (x ∷ xs)) same ∙ there) in
      let tied : key_cmp (key_of e) x.0 ≡ Equal = ap (key_cmp (key_of e)) same ∙ tied_itself keys_total (key_of e) in
      taken k x xs up ∙ ap (λ r. x ∷ r) (all_above k xs (below_less keys_total k x.0 xs up (first _ _ h)))
      ∙ (λ i. (same i, is i) ∷ xs)
      ∙ ap (λ r. (key_of e, e) ∷ r) (sym (skipped (key_of e) x xs (λ lt. absurd (cc (lt, tied)))
      ∙ all_above (key_of e) xs (below_tied keys_total (key_of e) x.0 xs tied (first _ _ h))))

  here : key_cmp k x.0 ≡ Less
      → ((q : LedgerKey) → key_cmp k q ≡ Less → find key_cmp q (x ∷ xs) ≢ None
      → key_cmp (key_of e) q ≢ Greater) → IsFirst
  here up least = elim (key_cmp (key_of e) x.0) as (λ r. key_cmp (key_of e) x.0 ≡ r → IsFirst) [
    | Less ↦ λ lower. absurd (cc (
      there,
      none_above keys_total (key_of e) (key_of e) (x ∷ xs)
          (tied_itself keys_total (key_of e))
          (both _ _ (is_less _ lower) (below_less keys_total (key_of e) x.0 xs lower (first _ _ h))),
    ))
    | Equal ↦ λ same. both_are up (sym (keys_exact (key_of e) x.0 same))
    | Greater ↦ λ over. absurd (least x.0 up (λ none. absurd (cc (none, found_first x xs))) over)
  ] refl

-- the least entry above a key is the first of what is there
least_first : (k : LedgerKey) (e : LedgerEntry) (es : Pairs) → T (is_sorted key_cmp es)
    → find key_cmp (key_of e) es ≡ Some e → key_cmp k (key_of e) ≡ Less
    → ((q : LedgerKey) → key_cmp k q ≡ Less → find key_cmp q es ≢ None → key_cmp (key_of e) q ≢ Greater)
    → above k es ≡ (key_of e, e) ∷ above (key_of e) es
least_first k e [] h there lt least = absurd (cc)
least_first k e (x ∷ xs) h there lt least =
    let later = λ (low : key_cmp k x.0 ≢ Less).
    let back : key_cmp (key_of e) x.0 ≡ Greater =
    greater keys_total x.0 (key_of e) (below_higher k x.0 (key_of e) low lt) in
    past k e x xs h there low back (least_first k e xs (second _ _ h) (found k e x xs h there back) lt
    (λ q up some. least q up (not_none (eq_by_cmp key_cmp q x.0) x.1 (find key_cmp q xs) some))) in
    elim (key_cmp k x.0) as (λ r. key_cmp k x.0 ≡ r → above k (x ∷ xs) ≡ (key_of e, e) ∷ above (key_of e) (x ∷ xs)) [
      | Less ↦ λ up. here k e x xs h there up least
      | Equal ↦ λ low. later (λ up. absurd (equal_not (sym low ∙ up)))
      | Greater ↦ λ low. later (λ up. absurd (greater_not (sym low ∙ up)))
    ] refl

-- ---- the next entry of a map

pub nothing_left : (m : EntryMap) (k : LedgerKey) → IsNextAfter m k None → above k (entries m) ≡ []
nothing_left m k none = none_higher k (entries m) (λ q lt. sym (get-entries m q) ∙ none q lt)

pub next_left : (m : EntryMap) (k : LedgerKey) (e : LedgerEntry) → IsLeastAbove m k e
    → above k (entries m) ≡ (key_of e, e) ∷ above (key_of e) (entries m)
next_left m k e h = least_first k e (entries m) (entries_sorted m) (sym (get-entries m (key_of e)) ∙ h.there) h.above
    (λ q lt some. h.least q lt (λ none. some (sym (get-entries m q) ∙ none)))
