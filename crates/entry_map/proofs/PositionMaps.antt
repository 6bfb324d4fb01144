-- Maps of positions, and the rows that they are kept as.
use Rattle.entry_map.proofs.Prelude as prelude
use prelude.{◌≡◌, ◌≢◌, refl, sym, ap, subst, ◌∙◌, Bool, true, false, cond, ◌||◌, List, [], ◌∷◌, ◌++◌, Option, Some}
use prelude.{None, is_some, option_or, eq_by_cmp, empty, insert, remove, get, find, from_sorted, same_map, get-empty}
use prelude.{get-from_sorted, get-insert, get-remove, rising_changed, find_changed, first_is, IsFirst, IsFirstAbove}
use prelude.{OfferEntry, BookPosition, OfferTerms, position_of, terms_of, PositionMap, has, is_at, is_taken, index_of}
use prelude.{with_offers, without_offers, terms_at, IsLeastPosition, IsLastPosition, map, T, AllByRecursion, is_lt}
use prelude.{is_sorted, keys_of, eq_by_cmp_equiv, Less}
use Rattle.std.specs.Prelude.{MatchOption}
use Rattle.std.specs.List.Sorted.{IsStrictlySortedBy}
use Rattle.std.specs.Map.{update_all}
use Rattle.std.specs.BTreeMap as tree
use Rattle.std.specs.BTreeMap.{BTreeMap}
use Rattle.std.specs.FinMap.Entries.{below_all}
use Rattle.shared_tree.proofs.Parts.{both, is_less}
use Rattle.entry_map.specs.Positions.{positioned}
use Rattle.shared_tree.specs.Rows.{IsRising, first_above, changed}
use Rattle.entry_map.proofs.KeyMaps.{or_none, or_or, find_lookup}
use Rattle.entry_map.proofs.Positions.{order, derived, derived_is, order_total, order_exact}

abbrev pub Row : Type 0
Row = List (BookPosition × OfferTerms)

-- maps that have the same under each position are the same
pub same_positions : (m n : PositionMap) → ((p : BookPosition) → get m p ≡ get n p) → m ≡ n
same_positions m n same = same_map order_total order_exact m n same

-- ---- what lists of offers put and take

-- the terms that some offers have at a position: those of the last one that has it
abbrev pub terms_in : List OfferEntry → BookPosition → Option OfferTerms
terms_in [] p = None
terms_in (o ∷ os) p = option_or (terms_in os p) (terms_at p (Some o))

pub some_terms : (os : List OfferEntry) (p : BookPosition) → is_some (terms_in os p) ≡ is_taken os p
some_terms [] p = refl
some_terms (o ∷ os) p = one_more (terms_in os p) (is_at p o) ∙ ap (λ b. is_at p o || b) (some_terms os p)
  where
    one_more : (t : Option OfferTerms) (b : Bool)
        → is_some (option_or t (cond b (Some (terms_of o)) None)) ≡ (b || is_some t)
    one_more None true = refl
    one_more None false = refl
    one_more (Some t) true = refl
    one_more (Some t) false = refl

pub get-with_offers : (m : PositionMap) (os : List OfferEntry) (p : BookPosition)
    → get (with_offers m os) p ≡ option_or (terms_in os p) (get m p)
unfolding with_offers
get-with_offers m [] p = refl
get-with_offers m (o ∷ os) p = get-with_offers (insert m (position_of o) (terms_of o)) os p
    ∙ ap (option_or (terms_in os p)) (get-insert order_total m (position_of o) (terms_of o) p ∙ put (is_at p o))
    ∙ or_or (terms_in os p) (terms_at p (Some o)) (get m p)
  where
    put : (b : Bool) → cond b (Some (terms_of o)) (get m p) ≡ option_or (cond b (Some (terms_of o)) None) (get m p)
    put true = refl
    put false = refl

pub get-index_of : (os : List OfferEntry) (p : BookPosition) → get (index_of os) p ≡ terms_in os p
get-index_of os p = get-with_offers empty os p ∙ ap (option_or (terms_in os p)) (get-empty order p)
    ∙ or_none (terms_in os p)

pub get-without_offers : (m : PositionMap) (os : List OfferEntry) (p : BookPosition)
    → get (without_offers m os) p ≡ cond (is_taken os p) None (get m p)
unfolding without_offers
get-without_offers m [] p = refl
get-without_offers m (o ∷ os) p = get-without_offers (remove m (position_of o)) os p
    ∙ ap (cond (is_taken os p) None) (get-remove order_total m (position_of o) p)
    ∙ twice (is_at p o) (is_taken os p)
  where
    twice : (a b : Bool) → cond b None (cond a None (get m p)) ≡ cond (a || b) None (get m p)
    twice true true = refl
    twice true false = refl
    twice false b = refl

pub with_more : (m : PositionMap) (xs ys : List OfferEntry)
    → with_offers m (xs ++ ys) ≡ with_offers (with_offers m xs) ys
unfolding with_offers
with_more m [] ys = refl
with_more m (o ∷ xs) ys = with_more (insert m (position_of o) (terms_of o)) xs ys

pub without_more : (m : PositionMap) (xs ys : List OfferEntry)
    → without_offers m (xs ++ ys) ≡ without_offers (without_offers m xs) ys
unfolding without_offers
without_more m [] ys = refl
without_more m (o ∷ xs) ys = without_more (remove m (position_of o)) xs ys

-- ---- rows

pub row_empty : from_sorted {R = order} [] ≡ empty {X = OfferTerms}
row_empty = same_map order_total order_exact _ _ (λ q. get-from_sorted order [] q tt ∙ sym (get-empty order q))

row_put : (row : Row) (p : BookPosition) (t : OfferTerms) → IsRising order row
    → from_sorted {R = order} (changed order p (Some t) row) ≡ insert (from_sorted row) p t
row_put row p t h = same_map order_total order_exact _ _ (λ q.
    get-from_sorted order _ q (rising_changed order_total p (Some t) row h)
    ∙ find_changed order_total q p (Some t) row h
    ∙ ap (cond (eq_by_cmp order q p) (Some t)) (sym (get-from_sorted order row q h))
    ∙ sym (get-insert order_total (from_sorted row) p t q))

row_take : (row : Row) (p : BookPosition) → IsRising order row
    → from_sorted {R = order} (changed order p None row) ≡ remove (from_sorted row) p
row_take row p h = same_map order_total order_exact _ _ (λ q.
    get-from_sorted order _ q (rising_changed order_total p None row h) ∙ find_changed order_total q p None row h
    ∙ ap (cond (eq_by_cmp order q p) None) (sym (get-from_sorted order row q h))
    ∙ sym (get-remove order_total (from_sorted row) p q))

-- ---- the same in the order that the code has

pub rising_derived : (row : Row) → IsRising order row → IsRising derived row
rising_derived row h = subst (λ R. IsRising R row) (sym derived_is) h

stated : (row next : Row) (p : BookPosition) (o : Option OfferTerms) → next ≡ changed derived p o row
    → next ≡ changed order p o row
stated row next p o h = subst (λ R. next ≡ changed R p o row) derived_is h

pub rising_after : (row next : Row) (p : BookPosition) (o : Option OfferTerms) → IsRising order row
    → next ≡ changed derived p o row → IsRising order next
rising_after row next p o h is =
    subst (IsRising order) (sym (stated row next p o is)) (rising_changed order_total p o row h)

pub put_after : (row next : Row) (m : PositionMap) (kept : BookPosition × OfferTerms) (p : BookPosition)
    (t : OfferTerms)
    → IsRising order row → from_sorted row ≡ m → kept ≡ (p, t) → next ≡ changed derived kept.0 (Some kept.1) row
    → from_sorted next ≡ insert m p t
put_after row next m kept p t h view is_kept is =
    ap (λ r. from_sorted {R = order} r) (stated row next kept.0 (Some kept.1) is)
    ∙ ap (λ (k : BookPosition × OfferTerms). from_sorted {R = order} (changed order k.0 (Some k.1) row)) is_kept
    ∙ row_put row p t h ∙ ap (λ (n : PositionMap). insert n p t) view

pub take_after : (row next : Row) (m : PositionMap) (p : BookPosition) → IsRising order row
    → from_sorted row ≡ m → next ≡ changed derived p None row → from_sorted next ≡ remove m p
take_after row next m p h view is = ap (λ r. from_sorted {R = order} r) (stated row next p None is)
    ∙ row_take row p h ∙ ap (λ (n : PositionMap). remove n p) view

-- ---- the least position above another one

get-row : (row : Row) (q : BookPosition) → IsRising order row → get {R = order} (from_sorted row) q ≡ find order q row
get-row row q h = get-from_sorted order row q h

has-row : (row : Row) (q : BookPosition) → IsRising order row → has (from_sorted row) q ≡ is_some (find order q row)
has-row row q h = ap is_some (get-row row q h)

some_not : (o : Option OfferTerms) → is_some o ≡ true → o ≢ None
some_not o h e = cc (ap is_some e)

stated_above : (row : Row) (k : BookPosition) (o : Option (BookPosition × OfferTerms)) → first_above derived k row ≡ o
    → first_above order k row ≡ o
stated_above row k o h = subst (λ R. first_above R k row ≡ o) derived_is h

pub last_position : (row : Row) (m : PositionMap) (k : BookPosition) → IsRising order row → from_sorted row ≡ m
    → first_above derived k row ≡ None → IsLastPosition m k
last_position row m k h view is =
    let e = stated_above row k None is in
    subst (λ n. IsLastPosition n k) view (λ q lt. has-row row q h
    ∙ ap is_some (subst (IsFirstAbove order_total row k) e (first_is order_total k row h) q lt))

pub least_position : (row : Row) (m : PositionMap) (k : BookPosition) (x : BookPosition × OfferTerms)
    → IsRising order row
    → from_sorted row ≡ m → first_above derived k row ≡ Some x → IsLeastPosition m k x.0 x.1
least_position row m k x h view is =
    let e = stated_above row k (Some x) is in
    let next : IsFirst order_total row k x = subst (IsFirstAbove order_total row k) e (first_is order_total k row h) in
    subst (λ n. IsLeastPosition n k x.0 x.1) view (record {
      there = get-row row x.0 h ∙ next.there;
      above = next.above;
      least = λ q lt there. next.least q lt (some_not _ (sym (has-row row q h) ∙ there));
    })

pub next_position : (row : Row) (m : PositionMap) (k : BookPosition) (o : Option (BookPosition × OfferTerms))
    → IsRising order row
    → from_sorted row ≡ m → first_above derived k row ≡ o
    → MatchOption o (IsLastPosition m k) (λ next. IsLeastPosition m k next.0 next.1)
next_position row m k None h view is = last_position row m k h view is
next_position row m k (Some x) h view is = least_position row m k x h view is

-- ---- rows that are sorted at once

terms_put : (os : List OfferEntry) (f : BookPosition → Option OfferTerms) (p : BookPosition)
    → update_all (eq_by_cmp order) f (map positioned os) p ≡ option_or (terms_in os p) (f p)
terms_put [] f p = refl
terms_put (o ∷ os) f p =
    terms_put os (λ q. cond (eq_by_cmp order (position_of o) q) (Some (terms_of o)) (f q)) p
    ∙ ap (λ b. option_or (terms_in os p) (cond b (Some (terms_of o)) (f p)))
    ((eq_by_cmp_equiv order_total).symm (position_of o) p)
    ∙ ap (option_or (terms_in os p)) (put (is_at p o)) ∙ or_or (terms_in os p) (terms_at p (Some o)) (f p)
  where
    put : (b : Bool) → cond b (Some (terms_of o)) (f p) ≡ option_or (cond b (Some (terms_of o)) None) (f p)
    put true = refl
    put false = refl

below_sorted : (p : BookPosition) (es : Row) → AllByRecursion (λ q. order p q ≡ Less) (keys_of es)
    → T (below_all order p es)
below_sorted p [] h = tt
below_sorted p (e ∷ es) h =
    both (is_lt (order p e.0)) (below_all order p es) (is_less (order p e.0) h.0) (below_sorted p es h.1)

rising_sorted : (es : Row) → IsStrictlySortedBy order (keys_of es) → IsRising order es
unfolding IsStrictlySortedBy
rising_sorted [] h = tt
rising_sorted (e ∷ es) h =
    both (below_all order e.0 es) (is_sorted order es) (below_sorted e.0 es h.0) (rising_sorted es h.1)

pub rising_built : (pairs row : Row) (built : BTreeMap BookPosition OfferTerms)
    → tree.IsFromIterResult derived pairs built → row ≡ built.entries → IsRising order row
rising_built pairs row built made is =
    let stated = subst (λ c. tree.IsFromIterResult c pairs built) derived_is made in
    subst (IsRising order) (sym is) (rising_sorted built.entries stated.1)

pub index_built : (os : List OfferEntry) (pairs row : Row) (built : BTreeMap BookPosition OfferTerms)
    → pairs ≡ map positioned os → tree.IsFromIterResult derived pairs built → row ≡ built.entries
    → from_sorted row ≡ index_of os
index_built os pairs row built listed made is =
    let stated = subst (λ c. tree.IsFromIterResult c pairs built) derived_is made in
    same_positions (from_sorted row) (index_of os) (λ p. get-row row p (rising_built pairs row built made is)
    ∙ ap (find order p) is ∙ find_lookup order p built.entries ∙ stated.0 p
    ∙ ap (λ (ps : Row). update_all (eq_by_cmp order) (λ _. None) ps p) listed ∙ terms_put os (λ _. None) p
    ∙ or_none (terms_in os p) ∙ sym (get-index_of os p))
