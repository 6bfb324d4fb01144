-- The index of a map, by the offers of the map and after its changes.
use Rattle.entry_map.proofs.Prelude as prelude
use prelude.{◌≡◌, ◌≢◌, refl, sym, ap, subst, ◌∙◌, Bool, true, false, cond, T, List, [], ◌∷◌, map, All, Option, Some}
use prelude.{None, IfSome, cons_option, is_some, option_or, is_eq, eq_by_cmp, Equal-is, tied_itself, empty, insert, get}
use prelude.{find, entries, entries_sorted, get-empty, get-entries, get-insert, get-remove, is_sorted, All-nil}
use prelude.{All-cons, none_above, OfferEntry, LedgerEntry, LedgerKey, key_of, key_of_body, key_cmp, keys_total}
use prelude.{BookPosition, OfferTerms, EntryMap, IsKeyed, put, erase, offer_in, offer_of, offers_in, offers_of}
use prelude.{IsNarrow, position_of, terms_of, key_at, PositionMap, is_at, is_of_offer, terms_at, existing, without}
use prelude.{AreNarrow, IsIndexOf, order, same_keys, if_some_at}
use Rattle.shared_tree.proofs.Parts.{first, second}
use Rattle.ledger_types.specs.declared.entry.LedgerEntryBody.{LedgerEntryBody}
use Rattle.ledger_types.specs.declared.entry.LedgerEntryBody.TheVariants as body
use Rattle.ledger_types.specs.declared.key.LedgerKey.TheVariants as key
use Rattle.entry_map.proofs.KeyMaps.{or_none, same_itself}
use Rattle.entry_map.proofs.Layers.{keyed_put}
use Rattle.entry_map.proofs.Positions.{same_position}
use Rattle.entry_map.proofs.PositionMaps.{terms_in}
use Rattle.entry_map.proofs.Positions.{order_total}

-- ---- an offer's position determines its key

key_in_body : (p : BookPosition) (b : LedgerEntryBody) → is_some (terms_at p (offer_in b)) ≡ true
    → key_at p ≡ key_of_body b
key_in_body p (body.Offer o) h = ap key_at (same_position p (position_of o) (distinguished (is_at p o) h))
  where
    distinguished : (b : Bool) → is_some (cond b (Some (terms_of o)) None) ≡ true → b ≡ true
    distinguished true h = refl
    distinguished false h = absurd (cc)
key_in_body p (body.Account e) h = absurd (cc)
key_in_body p (body.TrustLine e) h = absurd (cc)
key_in_body p (body.Data e) h = absurd (cc)
key_in_body p (body.ClaimableBalance e) h = absurd (cc)
key_in_body p (body.LiquidityPool e) h = absurd (cc)

key_in : (p : BookPosition) (k : LedgerKey) (o : Option LedgerEntry) → IfSome o (λ e. key_of e ≡ k)
    → is_some (terms_at p (offer_of o)) ≡ true → key_at p ≡ k
key_in p k None own h = absurd (cc)
key_in p k (Some e) own h = key_in_body p e.body h ∙ own

-- what is under another key has another position
apart_from : (p : BookPosition) (k : LedgerKey) (o : Option LedgerEntry) → IfSome o (λ e. key_of e ≡ k)
    → eq_by_cmp key_cmp (key_at p) k ≡ false → terms_at p (offer_of o) ≡ None
apart_from p k o own e = elim (terms_at p (offer_of o)) as (λ t. terms_at p (offer_of o) ≡ t → t ≡ None) [
  | None ↦ λ _. refl
  | Some t ↦ λ is. absurd (cc (
    e,
    ap (λ x. eq_by_cmp key_cmp x k) (key_in p k o own (ap is_some is)) ∙ same_itself k,
  ))
] refl

no_offer : (p : BookPosition) (b : LedgerEntryBody) → offer_in b ≡ None → key_at p ≢ key_of_body b
no_offer p (body.Offer o) h e = absurd (cc)
no_offer p (body.Account a) h e = absurd (cc)
no_offer p (body.TrustLine a) h e = absurd (cc)
no_offer p (body.Data a) h e = absurd (cc)
no_offer p (body.ClaimableBalance a) h e = absurd (cc)
no_offer p (body.LiquidityPool a) h e = absurd (cc)

other_key : (p : BookPosition) (k : LedgerKey) → is_of_offer k ≡ false → key_at p ≢ k
other_key p (key.Offer s i) h e = absurd (cc)
other_key p (key.Account a) h e = absurd (cc)
other_key p (key.TrustLine a l) h e = absurd (cc)
other_key p (key.Data a n) h e = absurd (cc)
other_key p (key.ClaimableBalance b) h e = absurd (cc)
other_key p (key.LiquidityPool b) h e = absurd (cc)

-- ---- the list of a map's offers

abbrev pub Pairs : Type 0
Pairs = List (LedgerKey × LedgerEntry)

abbrev listed : Pairs → List OfferEntry
listed es = offers_in (map (λ x. x.1) es)

abbrev AreOwn : Pairs → Type 0
AreOwn es = (k : LedgerKey) (e : LedgerEntry) → find key_cmp k es ≡ Some e → key_of e ≡ k

pub found_first : (x : LedgerKey × LedgerEntry) (xs : Pairs) → find key_cmp x.0 (x ∷ xs) ≡ Some x.1
found_first x xs = ap (λ o. cond (is_eq o) (Some x.1) (find key_cmp x.0 xs)) (tied_itself keys_total x.0)

pub found_later : (x : LedgerKey × LedgerEntry) (xs : Pairs) (k : LedgerKey) (e : LedgerEntry)
    → T (is_sorted key_cmp (x ∷ xs)) → find key_cmp k xs ≡ Some e → find key_cmp k (x ∷ xs) ≡ Some e
found_later x xs k e h f = elim (eq_by_cmp key_cmp k x.0) as (λ b. eq_by_cmp key_cmp k x.0 ≡ b
    → cond b (Some x.1) (find key_cmp k xs) ≡ Some e) [
      | true ↦ λ t. absurd (cc (f, none_above keys_total k x.0 xs ((Equal-is (key_cmp k x.0)).0 t) (first _ _ h)))
      | false ↦ λ t. f
    ] refl

-- what holds of each offer that exists holds of each in the list
all_listed : (P : OfferEntry → Type 0) (es : Pairs) → T (is_sorted key_cmp es)
    → ((k : LedgerKey) (e : LedgerEntry) → find key_cmp k es ≡ Some e → IfSome (offer_in e.body) P) → All P (listed es)
all_listed P [] h each = All-nil P
all_listed P (x ∷ xs) h each = elim (offer_in x.1.body) as (λ o. IfSome o P → All P (cons_option o (listed xs))) [
  | None ↦ λ _. all_listed P xs (second _ _ h) (λ k e f. each k e (found_later x xs k e h f))
  | Some o ↦ λ here. All-cons P o (listed xs) here
      (all_listed P xs (second _ _ h) (λ k e f. each k e (found_later x xs k e h f)))
] (each x.0 x.1 (found_first x xs))

pub all_offers : (P : OfferEntry → Type 0) (m : EntryMap)
    → ((k : LedgerKey) (e : LedgerEntry) → get m k ≡ Some e → IfSome (offer_in e.body) P) → All P (offers_of m)
all_offers P m each = all_listed P (entries m) (entries_sorted m) (λ k e f. each k e (get-entries m k ∙ f))

terms_cons : (o : Option OfferEntry) (os : List OfferEntry) (p : BookPosition)
    → terms_in (cons_option o os) p ≡ option_or (terms_in os p) (terms_at p o)
terms_cons None os p = sym (or_none (terms_in os p))
terms_cons (Some o) os p = refl

terms_listed : (es : Pairs) (p : BookPosition) → T (is_sorted key_cmp es) → AreOwn es
    → terms_in (listed es) p ≡ terms_at p (offer_of (find key_cmp (key_at p) es))
terms_listed [] p h own = refl
terms_listed (x ∷ xs) p h own = terms_cons (offer_in x.1.body) (listed xs) p
    ∙ ap (λ t. option_or t (terms_at p (offer_in x.1.body)))
    (terms_listed xs p (second _ _ h) (λ k e f. own k e (found_later x xs k e h f)))
    ∙ elim (eq_by_cmp key_cmp (key_at p) x.0) as (λ b. eq_by_cmp key_cmp (key_at p) x.0 ≡ b
    → option_or (terms_at p (offer_of (find key_cmp (key_at p) xs))) (terms_at p (offer_in x.1.body))
    ≡ terms_at p (offer_of (cond b (Some x.1) (find key_cmp (key_at p) xs)))) [
      | true ↦ λ t. ap (λ o. option_or (terms_at p (offer_of o)) (terms_at p (offer_in x.1.body)))
          (none_above keys_total (key_at p) x.0 xs ((Equal-is (key_cmp (key_at p) x.0)).0 t) (first _ _ h))
      | false ↦ λ t. ap (option_or (terms_at p (offer_of (find key_cmp (key_at p) xs))))
          (apart_from p x.0 (Some x.1) (own x.0 x.1 (found_first x xs)) t)
          ∙ or_none (terms_at p (offer_of (find key_cmp (key_at p) xs)))
    ] refl

pub terms_exist : (m : EntryMap) (p : BookPosition) → IsKeyed m → terms_in (offers_of m) p ≡ existing m p
terms_exist m p keyed = terms_listed (entries m) p (entries_sorted m)
    (λ k e f. if_some_at (λ x. key_of x ≡ k) (get m k) e (keyed k) (get-entries m k ∙ f))
    ∙ ap (λ o. terms_at p (offer_of o)) (sym (get-entries m (key_at p)))

pub narrow_offers : (m : EntryMap) (index : PositionMap) → IsIndexOf m index → AreNarrow (offers_of m)
narrow_offers m index h = all_offers (λ o. IsNarrow o.price) m
    (λ k e f. subst (λ o. IfSome (offer_of o) (λ x. IsNarrow x.price)) f (h.narrow k))

-- ---- changes of the map

get-without : (old : Option OfferEntry) (index : PositionMap) (p : BookPosition)
    → get (without old index) p ≡ cond (is_some (terms_at p old)) None (get index p)
get-without None index p = refl
get-without (Some o) index p = get-remove order_total index (position_of o) p ∙ distinguished (is_at p o)
  where
    distinguished : (b : Bool) → cond b None (get index p)
        ≡ cond (is_some (cond b (Some (terms_of o)) None)) None (get index p)
    distinguished true = refl
    distinguished false = refl

terms_cond : (b : Bool) (x y : Option LedgerEntry) (p : BookPosition)
    → terms_at p (offer_of (cond b x y)) ≡ cond b (terms_at p (offer_of x)) (terms_at p (offer_of y))
terms_cond true x y p = refl
terms_cond false x y p = refl

existing-put : (m : EntryMap) (e : LedgerEntry) (p : BookPosition) → existing (put m e) p
    ≡ cond (eq_by_cmp key_cmp (key_at p) (key_of e)) (terms_at p (offer_in e.body)) (existing m p)
existing-put m e p = ap (λ o. terms_at p (offer_of o)) (get-insert keys_total m (key_of e) e (key_at p))
    ∙ terms_cond (eq_by_cmp key_cmp (key_at p) (key_of e)) (Some e) (get m (key_at p)) p

existing-erase : (m : EntryMap) (k : LedgerKey) (p : BookPosition) → existing (erase m k) p
    ≡ cond (eq_by_cmp key_cmp (key_at p) k) None (existing m p)
existing-erase m k p = ap (λ o. terms_at p (offer_of o)) (get-remove keys_total m k (key_at p))
    ∙ terms_cond (eq_by_cmp key_cmp (key_at p) k) None (get m (key_at p)) p

never : (t : Option OfferTerms) → cond (is_some t) None t ≡ None
never None = refl
never (Some x) = refl

-- without what was under a key
taken_out : (m : EntryMap) (index : PositionMap) (k : LedgerKey) (p : BookPosition) → IsIndexOf m index
    → get (without (offer_of (get m k)) index) p ≡ cond (eq_by_cmp key_cmp (key_at p) k) None (existing m p)
taken_out m index k p h = get-without (offer_of (get m k)) index p
    ∙ ap (cond (is_some (terms_at p (offer_of (get m k)))) None) (h.each p)
    ∙ elim (eq_by_cmp key_cmp (key_at p) k) as (λ b. eq_by_cmp key_cmp (key_at p) k ≡ b
    → cond (is_some (terms_at p (offer_of (get m k)))) None (existing m p) ≡ cond b None (existing m p)) [
      | true ↦ λ e. ap (λ q. cond (is_some (terms_at p (offer_of (get m k)))) None (terms_at p (offer_of (get m q))))
          (same_keys (key_at p) k e)
          ∙ never (terms_at p (offer_of (get m k)))
      | false ↦ λ e. ap (λ t. cond (is_some t) None (existing m p)) (apart_from p k (get m k) (h.keyed k) e)
    ] refl

narrow_cond : (b : Bool) (x y : Option LedgerEntry) → IfSome (offer_of x) (λ o. IsNarrow o.price)
    → IfSome (offer_of y) (λ o. IsNarrow o.price) → IfSome (offer_of (cond b x y)) (λ o. IsNarrow o.price)
narrow_cond true x y p q = p
narrow_cond false x y p q = q

narrow_put : (m : EntryMap) (index : PositionMap) (e : LedgerEntry) → IsIndexOf m index
    → IfSome (offer_in e.body) (λ o. IsNarrow o.price) → (k : LedgerKey)
    → IfSome (offer_of (get (put m e) k)) (λ o. IsNarrow o.price)
narrow_put m index e h here k = subst (λ o. IfSome (offer_of o) (λ x. IsNarrow x.price))
    (sym (get-insert keys_total m (key_of e) e k))
    (narrow_cond (eq_by_cmp key_cmp k (key_of e)) (Some e) (get m k) here (h.narrow k))

narrow_erased : (m : EntryMap) (index : PositionMap) (k : LedgerKey) → IsIndexOf m index → (q : LedgerKey)
    → IfSome (offer_of (get (erase m k) q)) (λ o. IsNarrow o.price)
narrow_erased m index k h q = subst (λ o. IfSome (offer_of o) (λ x. IsNarrow x.price))
    (sym (get-remove keys_total m k q)) (narrow_cond (eq_by_cmp key_cmp q k) None (get m q) tt (h.narrow q))

keyed_cond : (b : Bool) (x y : Option LedgerEntry) (k : LedgerKey) → IfSome x (λ e. key_of e ≡ k)
    → IfSome y (λ e. key_of e ≡ k) → IfSome (cond b x y) (λ e. key_of e ≡ k)
keyed_cond true x y k p q = p
keyed_cond false x y k p q = q

keyed_erased : (m : EntryMap) (k : LedgerKey) → IsKeyed m → IsKeyed (erase m k)
keyed_erased m k keyed q = subst (λ o. IfSome o (λ e. key_of e ≡ q)) (sym (get-remove keys_total m k q))
    (keyed_cond (eq_by_cmp key_cmp q k) None (get m q) q tt (keyed q))

put_at : (b : Bool) (o : OfferEntry) (t : Option OfferTerms)
    → cond b (Some (terms_of o)) t ≡ option_or (cond b (Some (terms_of o)) None) t
put_at true o t = refl
put_at false o t = refl

pub index_put : (m : EntryMap) (index : PositionMap) (e : LedgerEntry) (new : OfferEntry) → IsIndexOf m index
    → offer_in e.body ≡ Some new → IsNarrow new.price
    → IsIndexOf (put m e) (insert (without (offer_of (get m (key_of e))) index) (position_of new) (terms_of new))
index_put m index e new h is narrow = record {
  keyed = keyed_put m e h.keyed;
  each = λ p. get-insert order_total (without (offer_of (get m (key_of e))) index) (position_of new) (terms_of new) p
      ∙ put_at (is_at p new) new _
      ∙ ap (option_or (terms_at p (Some new))) (taken_out m index (key_of e) p h)
      ∙ elim (eq_by_cmp key_cmp (key_at p) (key_of e)) as (λ b. eq_by_cmp key_cmp (key_at p) (key_of e) ≡ b
      → option_or (terms_at p (Some new)) (cond b None (existing m p))
      ≡ cond b (terms_at p (offer_in e.body)) (existing m p)) [
        | true ↦ λ t. or_none (terms_at p (Some new)) ∙ ap (terms_at p) (sym is)
        | false ↦ λ t. ap (λ x. option_or x (existing m p))
            (ap (terms_at p) (sym is) ∙ apart_from p (key_of e) (Some e) refl t)
      ] refl
      ∙ sym (existing-put m e p);
  narrow = narrow_put m index e h (subst (λ o. IfSome o (λ x. IsNarrow x.price)) (sym is) narrow);
}

-- an entry that is no offer
pub index_kept : (m : EntryMap) (index : PositionMap) (e : LedgerEntry) → IsIndexOf m index → offer_in e.body ≡ None
    → IsIndexOf (put m e) index
index_kept m index e h is = record {
  keyed = keyed_put m e h.keyed;
  each = λ p. h.each p ∙ elim (eq_by_cmp key_cmp (key_at p) (key_of e)) as (λ b.
      eq_by_cmp key_cmp (key_at p) (key_of e) ≡ b
      → existing m p ≡ cond b (terms_at p (offer_in e.body)) (existing m p)) [
        | true ↦ λ t. absurd (no_offer p e.body is (same_keys (key_at p) (key_of e) t))
        | false ↦ λ t. refl
      ] refl
      ∙ sym (existing-put m e p);
  narrow = narrow_put m index e h (subst (λ o. IfSome o (λ x. IsNarrow x.price)) (sym is) tt);
}

pub index_erased : (m : EntryMap) (index : PositionMap) (k : LedgerKey) → IsIndexOf m index
    → IsIndexOf (erase m k) (without (offer_of (get m k)) index)
index_erased m index k h = record {
  keyed = keyed_erased m k h.keyed;
  each = λ p. taken_out m index k p h ∙ sym (existing-erase m k p);
  narrow = narrow_erased m index k h;
}

-- a key under which no offer can be
pub index_left : (m : EntryMap) (index : PositionMap) (k : LedgerKey) → IsIndexOf m index → is_of_offer k ≡ false
    → IsIndexOf (erase m k) index
index_left m index k h other = record {
  keyed = keyed_erased m k h.keyed;
  each = λ p. h.each p ∙ elim (eq_by_cmp key_cmp (key_at p) k) as (λ b.
      eq_by_cmp key_cmp (key_at p) k ≡ b → existing m p ≡ cond b None (existing m p)) [
        | true ↦ λ t. absurd (other_key p k other (same_keys (key_at p) k t))
        | false ↦ λ t. refl
      ] refl
      ∙ sym (existing-erase m k p);
  narrow = narrow_erased m index k h;
}

pub index_empty : IsIndexOf empty empty
index_empty = record {
  keyed = λ k. subst (λ o. IfSome o (λ e. key_of e ≡ k)) (sym (get-empty key_cmp k)) tt;
  each = λ p. get-empty order p ∙ sym (ap (λ o. terms_at p (offer_of o)) (get-empty key_cmp (key_at p)));
  narrow = λ k. subst (λ o. IfSome (offer_of o) (λ x. IsNarrow x.price)) (sym (get-empty key_cmp k)) tt;
}

-- ---- what the code does at a put and at an erasure

pub put_made : (m : EntryMap) (index left new : PositionMap) (e : LedgerEntry) (o : OfferEntry)
    (old : Option LedgerEntry)
    → IsIndexOf m index → offer_in e.body ≡ Some o → IsNarrow o.price
    → old ≡ get m (key_of e) → left ≡ without (offer_of old) index
    → new ≡ insert left (position_of o) (terms_of o) → IsIndexOf (put m e) new
put_made m index left new e o old h is narrow there is_left is_new =
    subst (IsIndexOf (put m e)) (sym (is_new ∙ ap (λ s. insert s (position_of o) (terms_of o)) (is_left
    ∙ ap (λ x. without (offer_of x) index) there)))
    (index_put m index e o h is narrow)

pub erase_made : (m : EntryMap) (index new : PositionMap) (k : LedgerKey) (old : Option LedgerEntry) → IsIndexOf m index
    → old ≡ get m k → new ≡ without (offer_of old) index → IsIndexOf (erase m k) new
erase_made m index new k old h there is_new = subst (IsIndexOf (erase m k))
    (sym (is_new ∙ ap (λ x. without (offer_of x) index) there)) (index_erased m index k h)
