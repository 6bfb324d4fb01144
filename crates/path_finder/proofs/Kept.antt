-- Assets kept in a set: each once, at its first position.
use Rattle.std.specs.Prelude.{◌||◌, ◌&&◌, filter, ◌++◌}
use Rattle.std.specs.List.{list_any, AllByRecursion}
use Rattle.std.proofs.Common.{append_assoc, length-append, drop-cons}
use Rattle.std.proofs.lemmas.List.{map-append, append-nil}
use Rattle.std.proofs.lemmas.List.Elements.{filter_agree}
use Rattle.std.proofs.lemmas.List.Folds.{list_any-append}
use Rattle.indexmap.specs.IndexSet.{insert_key, insert_all}
use Rattle.path_finder.proofs.Prelude.{◌≡◌, refl, sym, ap, ◌∙◌, ℕ, ◌+◌, ◌<◌, ◌≤◌, suc, List, [], ◌∷◌, length, get_or}
use Rattle.path_finder.proofs.Prelude.{map, drop, Bool, true, false, cond, not, arith, if◌then◌else◌, IsDistinct}
use Rattle.path_finder.proofs.Prelude.{same_assets, Asset, is_same_asset, same_equivalence, distinct}

-- ---- a set of what stands for other items

module _ {X Y : Type 0} (f : Y → X) (eq : X → X → Bool) where
  any_map : (x : X) (ys : List Y) → list_any (eq x) (map f ys) ≡ list_any (λ y. eq x (f y)) ys
  any_map x [] = refl
  any_map x (y ∷ ys) = ap (λ b. eq x (f y) || b) (any_map x ys)

  insert_map : (ys : List Y) (y : Y)
      → insert_key eq (map f ys) (f y) ≡ map f (insert_key (λ a b. eq (f a) (f b)) ys y)
  insert_map ys y =
      ap (λ b. if b then map f ys else map f ys ++ f y ∷ []) (any_map (f y) ys)
      ∙ by (list_any (λ b. eq (f y) (f b)) ys)
    where
      by : (b : Bool) → (if b then map f ys else map f ys ++ f y ∷ []) ≡ map f (if b then ys else ys ++ y ∷ [])
      by true = refl
      by false = sym (map-append f ys (y ∷ []))

  -- one more item is inserted
  pub inserted_next : (all xs : List X) (i : ℕ) (d : X) (y : Y) (ks new : List Y) → i < length xs → get_or xs i d ≡ f y
      → new ≡ insert_key (λ a b. eq (f a) (f b)) ks y → insert_all eq (map f ks) (drop i xs) ≡ all
      → insert_all eq (map f new) (drop (i + 1) xs) ≡ all
  inserted_next all xs i d y ks new below at e h =
      let one : suc i ≡ i + 1 = omega arith in
      let next : drop (suc i) xs ≡ drop (i + 1) xs = ap (λ n. drop n xs) one in
      ap (λ l. insert_all eq (map f l) (drop (i + 1) xs)) e
      ∙ ap (λ l. insert_all eq l (drop (i + 1) xs)) (sym (insert_map ks y))
      ∙ sym (ap (insert_all eq (map f ks)) (drop-cons xs i d below ∙ (λ k. at k ∷ next k)))
      ∙ h

  apart_map : (y : Y) (ys : List Y) → AllByRecursion (λ b. eq (f y) (f b) ≡ false) ys
      → AllByRecursion (λ x. eq (f y) x ≡ false) (map f ys)
  apart_map y [] h = h
  apart_map y (b ∷ ys) h = (h.0, apart_map y ys h.1)

  pub distinct_map : (ys : List Y) → IsDistinct (λ a b. eq (f a) (f b)) ys → IsDistinct eq (map f ys)
  unfolding IsDistinct
  distinct_map [] h = h
  distinct_map (y ∷ ys) h = (apart_map y ys h.0, distinct_map ys h.1)

-- ---- how many are kept

module _ {X : Type 0} (eq : X → X → Bool) where
  inserted_length : (ks : List X) (k : X) → length (insert_key eq ks k) ≤ length ks + 1
  inserted_length ks k = by (list_any (eq k) ks)
    where
      by : (b : Bool) → length (if b then ks else ks ++ k ∷ []) ≤ length ks + 1
      by true = omega arith
      by false = let e = length-append ks (k ∷ []) in omega (arith, e)

  -- no more than there are
  pub kept_length : (ks xs : List X) → length (insert_all eq ks xs) ≤ length ks + length xs
  kept_length ks [] = omega arith
  kept_length ks (x ∷ xs) =
      let one = inserted_length ks x in
      let all = kept_length (insert_key eq ks x) xs in omega (arith, one, all)

-- ---- which are kept

filter_both : {X : Type 0} (p q : X → Bool) (xs : List X) → filter p (filter q xs) ≡ filter (λ x. q x && p x) xs
filter_both p q [] = refl
filter_both p q (x ∷ xs) = by (q x) (filter_both p q xs)
  where
    by : (t : Bool) → filter p (filter q xs) ≡ filter (λ x. q x && p x) xs
        → filter p (cond t (x ∷ filter q xs) (filter q xs))
        ≡ cond (t && p x) (x ∷ filter (λ x. q x && p x) xs) (filter (λ x. q x && p x) xs)
    by true e = ap (λ l. cond (p x) (x ∷ l) l) e
    by false e = e

filter_all : {X : Type 0} (xs : List X) → filter (λ x. not false) xs ≡ xs
filter_all [] = refl
filter_all (x ∷ xs) = ap (λ l. x ∷ l) (filter_all xs)

-- it isn't among these
abbrev is_new_to : List Asset → Asset → Bool
is_new_to ks a = not (list_any (is_same_asset a) ks)

abbrev is_other : Asset → Asset → Bool
is_other a b = not (is_same_asset a b)

-- where a is among them, what is new to them is another than a
new_is_other : (ks : List Asset) (a : Asset) → list_any (is_same_asset a) ks ≡ true
    → (b : Asset) → (is_other a b && is_new_to ks b) ≡ is_new_to ks b
new_is_other ks a among b = by (is_same_asset a b) refl
  where
    by : (t : Bool) → is_same_asset a b ≡ t → (not t && is_new_to ks b) ≡ is_new_to ks b
    by true e =
        sym (ap (λ x. not (list_any (is_same_asset x) ks)) (sym (same_assets a b e)) ∙ ap not among)
    by false e = refl

-- new to them and another than a is new to all of them with a
new_to_more : (ks : List Asset) (a b : Asset) → (is_other a b && is_new_to ks b) ≡ is_new_to (ks ++ a ∷ []) b
new_to_more ks a b =
    ap (λ t. not t && is_new_to ks b) (same_equivalence.symm a b)
    ∙ by (is_same_asset b a) (list_any (is_same_asset b) ks)
    ∙ ap not (sym (list_any-append (is_same_asset b) ks (a ∷ [])))
  where
    by : (t u : Bool) → (not t && not u) ≡ not (u || (t || false))
    by true true = refl
    by true false = refl
    by false true = refl
    by false false = refl

kept_with : (ks xs : List Asset) → insert_all is_same_asset ks xs ≡ ks ++ filter (is_new_to ks) (distinct xs)
kept_with ks [] = sym (append-nil ks)
kept_with ks (a ∷ xs) = by (list_any (is_same_asset a) ks) refl (kept_with ks xs) (kept_with (ks ++ a ∷ []) xs)
  where
    by : (t : Bool) → list_any (is_same_asset a) ks ≡ t
        → insert_all is_same_asset ks xs ≡ ks ++ filter (is_new_to ks) (distinct xs)
        → insert_all is_same_asset (ks ++ a ∷ []) xs
        ≡ (ks ++ a ∷ []) ++ filter (is_new_to (ks ++ a ∷ [])) (distinct xs)
        → insert_all is_same_asset (if t then ks else ks ++ a ∷ []) xs
        ≡ ks ++ cond (not t) (a ∷ filter (is_new_to ks) (filter (is_other a) (distinct xs)))
        (filter (is_new_to ks) (filter (is_other a) (distinct xs)))
    by true e old more =
        old ∙ ap (λ l. ks ++ l)
        (sym (filter_both (is_new_to ks) (is_other a) (distinct xs)
        ∙ filter_agree (λ b. is_other a b && is_new_to ks b) (is_new_to ks) (new_is_other ks a e) (distinct xs)))
    by false e old more =
        more ∙ append_assoc ks (a ∷ []) (filter (is_new_to (ks ++ a ∷ [])) (distinct xs))
        ∙ ap (λ l. ks ++ a ∷ l)
        (sym (filter_both (is_new_to ks) (is_other a) (distinct xs)
        ∙ filter_agree (λ b. is_other a b && is_new_to ks b) (is_new_to (ks ++ a ∷ [])) (new_to_more ks a)
        (distinct xs)))

pub kept_all : (xs : List Asset) → insert_all is_same_asset [] xs ≡ distinct xs
kept_all xs = kept_with [] xs ∙ filter_all (distinct xs)
