-- Indexes that are made one offer after another.
use Rattle.entry_map.proofs.Prelude.{◌≡◌, refl, sym, ap, subst, ◌∙◌, ℕ, ◌+◌, ◌<◌, ◌≤◌, false, List, [], ◌∷◌, ◌++◌, map}
use Rattle.entry_map.proofs.Prelude.{length, take, get_or, Option, Some, None, IsDistinct, list_any, cons_option}
use Rattle.entry_map.proofs.Prelude.{eq_by_cmp, insert, remove, get, from_entries, get-from_entries, is_some-find}
use Rattle.entry_map.proofs.Prelude.{take_all, take_more, list_any_none, filter_map-append, All-from_recursion}
use Rattle.entry_map.proofs.Prelude.{OfferEntry, LedgerEntry, key_of, key_cmp, keys_total, EntryMap, put, offer_in}
use Rattle.entry_map.proofs.Prelude.{offer_of, offers_in, IsNarrow, position_of, terms_of, PositionMap, with_offers}
use Rattle.entry_map.proofs.Prelude.{without_offers, without, IsIndexOf, is_some_false}
use Rattle.entry_map.proofs.Layers.{with_key}
use Rattle.entry_map.proofs.PositionMaps.{with_more, without_more}
use Rattle.entry_map.proofs.Prelude.{empty, index_of}
use Rattle.entry_map.proofs.Aggregates.{index_empty, index_put}

-- ---- lists of offers

pub more_offers : (os : List OfferEntry) (i : ℕ) (d : OfferEntry) (first old new : PositionMap) → i < length os
    → new ≡ insert old (position_of (get_or os i d)) (terms_of (get_or os i d)) → old ≡ with_offers first (take i os)
    → new ≡ with_offers first (take (i + 1) os)
unfolding with_offers
more_offers os i d first old new lt is h = is
    ∙ ap (λ m. insert m (position_of (get_or os i d)) (terms_of (get_or os i d))) h
    ∙ sym (with_more first (take i os) (get_or os i d ∷ []))
    ∙ ap (with_offers first) (sym (take_more os i d lt))

pub no_offers_in : (first index : PositionMap) → index ≡ first → index ≡ with_offers first []
unfolding with_offers
no_offers_in first index is = is

pub all_offers_in : (os : List OfferEntry) (i : ℕ) (first index : PositionMap) → length os ≤ i
    → index ≡ with_offers first (take i os) → index ≡ with_offers first os
all_offers_in os i first index le h = h ∙ ap (with_offers first) (take_all i os le)

pub less_offers : (os : List OfferEntry) (i : ℕ) (d : OfferEntry) (first old new : PositionMap) → i < length os
    → new ≡ remove old (position_of (get_or os i d)) → old ≡ without_offers first (take i os)
    → new ≡ without_offers first (take (i + 1) os)
unfolding without_offers
less_offers os i d first old new lt is h = is ∙ ap (λ m. remove m (position_of (get_or os i d))) h
    ∙ sym (without_more first (take i os) (get_or os i d ∷ []))
    ∙ ap (without_offers first) (sym (take_more os i d lt))

pub none_gone : (first index : PositionMap) → index ≡ first → index ≡ without_offers first []
unfolding without_offers
none_gone first index is = is

pub all_offers_gone : (os : List OfferEntry) (i : ℕ) (first index : PositionMap) → length os ≤ i
    → index ≡ without_offers first (take i os) → index ≡ without_offers first os
all_offers_gone os i first index le h = h ∙ ap (without_offers first) (take_all i os le)

-- ---- lists of entries

offers_push : (es : List LedgerEntry) (e : LedgerEntry) → offers_in (es ++ e ∷ []) ≡ offers_in es ++ offers_in (e ∷ [])
offers_push es e = filter_map-append (λ x. offer_in x.body) es (e ∷ [])

pub more_entries : (es : List LedgerEntry) (i : ℕ) (e : LedgerEntry) (first old new : PositionMap) → i < length es
    → e ≡ get_or es i e → new ≡ with_offers old (offers_in (e ∷ []))
    → old ≡ with_offers first (offers_in (take i es))
    → new ≡ with_offers first (offers_in (take (i + 1) es))
more_entries es i e first old new lt at is h = is ∙ ap (λ m. with_offers m (offers_in (e ∷ []))) h
    ∙ sym (with_more first (offers_in (take i es)) (offers_in (e ∷ [])))
    ∙ ap (with_offers first) (sym (offers_push (take i es) e)
    ∙ ap offers_in (ap (λ x. take i es ++ x ∷ []) at ∙ sym (take_more es i e lt)))

pub all_entries_in : (es : List LedgerEntry) (i : ℕ) (first index : PositionMap) → length es ≤ i
    → index ≡ with_offers first (offers_in (take i es)) → index ≡ with_offers first (offers_in es)
all_entries_in es i first index le h = h ∙ ap (λ r. with_offers first (offers_in r)) (take_all i es le)

pub index_push : (os : List OfferEntry) (o : OfferEntry)
    → index_of (os ++ o ∷ []) ≡ insert (index_of os) (position_of o) (terms_of o)
unfolding with_offers
index_push os o = with_more empty os (o ∷ [])

-- the index of no offers is that of no entries
pub index_of_none : (os : List OfferEntry) → os ≡ [] → IsIndexOf (from_entries []) (index_of os)
unfolding with_offers
index_of_none os none = subst (λ rest. IsIndexOf (from_entries []) (index_of rest)) (sym none) index_empty

-- ---- an entry that wasn't there

pub none_put : (e : LedgerEntry) (index : PositionMap) → offer_in e.body ≡ None
    → with_offers index (offers_in (e ∷ [])) ≡ index
unfolding with_offers
none_put e index is = ap (λ o. with_offers index (cons_option o [])) is

pub one_put : (e : LedgerEntry) (o : OfferEntry) (index : PositionMap) → offer_in e.body ≡ Some o
    → with_offers index (offers_in (e ∷ [])) ≡ insert index (position_of o) (terms_of o)
unfolding with_offers
one_put e o index is = ap (λ x. with_offers index (cons_option x [])) is

pub index_new : (m : EntryMap) (index new : PositionMap) (e : LedgerEntry) (o : OfferEntry) → IsIndexOf m index
    → get m (key_of e) ≡ None → offer_in e.body ≡ Some o → IsNarrow o.price
    → new ≡ insert index (position_of o) (terms_of o)
    → IsIndexOf (put m e) new
index_new m index new e o h none is narrow made = subst (IsIndexOf (put m e)) (sym made)
    (subst (λ (old : Option LedgerEntry).
    IsIndexOf (put m e) (insert (without (offer_of old) index) (position_of o) (terms_of o))) none
    (index_put m index e o h is narrow))

-- ---- the entries of an entire list

pub distinct_after : (es rest : List LedgerEntry) → IsDistinct (eq_by_cmp key_cmp) (map key_of (es ++ rest))
    → IsDistinct (eq_by_cmp key_cmp) (map key_of rest)
unfolding IsDistinct
distinct_after [] rest h = h
distinct_after (e ∷ es) rest h = distinct_after es rest h.1

pub not_there : (e : LedgerEntry) (rest : List LedgerEntry)
    → IsDistinct (eq_by_cmp key_cmp) (map key_of (e ∷ rest))
    → get {R = key_cmp} (from_entries (map with_key rest)) (key_of e) ≡ None
unfolding IsDistinct
not_there e rest h = get-from_entries keys_total (map with_key rest) (key_of e)
    ∙ is_some_false _ (is_some-find key_cmp (key_of e) (map with_key rest)
    ∙ ap (list_any (eq_by_cmp key_cmp (key_of e))) (keys_with rest)
    ∙ list_any_none (eq_by_cmp key_cmp (key_of e)) (map key_of rest)
    (All-from_recursion (λ q. eq_by_cmp key_cmp (key_of e) q ≡ false) (map key_of rest) h.0))
  where
    keys_with : (es : List LedgerEntry) → map (λ x. x.0) (map with_key es) ≡ map key_of es
    keys_with [] = refl
    keys_with (x ∷ es) = ap (λ ks. key_of x ∷ ks) (keys_with es)
