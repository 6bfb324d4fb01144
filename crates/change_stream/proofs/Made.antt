-- The changes of a batch, each once, in the order of their keys.
use Rattle.change_stream.proofs.Prelude.{All, AreChangesOf, AreRising, AreSorted, Batch, Change, Contains}
use Rattle.change_stream.proofs.Prelude.{Contains-append_cases, Contains-append_left, Contains-append_right, Created}
use Rattle.change_stream.proofs.Prelude.{EntryMap, Equal, IfSome, IsChangeOf, IsKeyedFor, KeyedChange, LedgerEntry}
use Rattle.change_stream.proofs.Prelude.{LedgerKey, Less, List, None, Option, Removed, Some, Updated, [], ap, arith}
use Rattle.change_stream.proofs.Prelude.{cons_option, creation, eq_by_cmp, false, filter_map, get, get_or, inl, inr}
use Rattle.change_stream.proofs.Prelude.{is_lt, key_cmp, key_in, key_of, keys_total, length, map, refl, removal_in}
use Rattle.change_stream.proofs.Prelude.{rules, subst, sym, update_in, ◌++◌, ◌+◌, ◌<◌, ◌∙◌, ◌∷◌, ◌≡◌, ◌≢◌, ◌⊎◌}
use Rattle.std.proofs.Common.{option_map}
use Rattle.std.proofs.lemmas.List.{get_or-map, length-map, map-append}
use Rattle.std.proofs.lemmas.List.Elements.{All-cons, All-contains}
use Rattle.std.proofs.lemmas.List.Sorted.{Contains-permutation, IsPermutation-map, IsPermutation-sym}
use Rattle.std.proofs.lemmas.Map.Keys.{IsDistinct-IsPermutation, IsDistinct-cons, IsDistinct-head, IsDistinct-tail}
use Rattle.std.proofs.lemmas.Map.Keys.{apart_from_distinct, sorted_from_all_adjacent}
use Rattle.std.specs.Cmp.{eq_by_cmp_equiv}
use Rattle.std.specs.List.{AllByRecursion, IsDistinct}
use Rattle.std.specs.List.Sorted.{IsSortedBy, IsStrictlySortedBy}
use Rattle.std.specs.Ordering.{is_eq, ordering_reverse}
use Rattle.std.specs.declared.cmp.Ordering.{Ordering}
use Rattle.std.specs.declared.cmp.Ordering.TheVariants.{Greater}
use Rattle.entry_map.proofs.Lookups.{apart_keys}
use Rattle.change_stream.specs.Changes.{IsBatchOver}
use Rattle.change_stream.specs.Making.{keyed, unsorted}
use Rattle.change_stream.proofs.Leading.{contains_cases, contains_first, contains_later, contains_none}

-- ---- lists

-- what a list made of another one has
in_map : {X Y : Type 0} (f : X → Y) (xs : List X) (x : X) → Contains xs x → Contains (map f xs) (f x)
in_map f [] x h = absurd (contains_none x h)
in_map f (y ∷ ys) x h = elim (contains_cases y ys x h) [
  | inl same ↦ subst (λ z. Contains (map f (y ∷ ys)) (f z)) same (contains_first (f y) (map f ys))
  | inr later ↦ contains_later (f y) (f x) (map f ys) (in_map f ys x later)
]

from_map : {X Y : Type 0} (f : X → Y) (xs : List X) (y : Y) → Contains (map f xs) y
    → (x : X) × Contains xs x × (f x ≡ y)
from_map f [] y h = absurd (contains_none y h)
from_map f (x ∷ xs) y h = elim (contains_cases (f x) (map f xs) y h) [
  | inl same ↦ (x, contains_first x xs, same)
  | inr later ↦ let there = from_map f xs y later in (there.0, contains_later x there.0 xs there.1, there.2)
]

in_option : {X : Type 0} (o : Option X) (xs : List X) (x : X) → o ≡ Some x → Contains (cons_option o xs) x
in_option None xs x e = absurd cc
in_option (Some y) xs x e = subst (λ z. Contains (y ∷ xs) z) (cc) (contains_first y xs)

past_option : {X : Type 0} (o : Option X) (xs : List X) (x : X) → Contains xs x → Contains (cons_option o xs) x
past_option None xs x h = h
past_option (Some y) xs x h = contains_later y x xs h

option_cases : {X : Type 0} (o : Option X) (xs : List X) (x : X) → Contains (cons_option o xs) x
    → (o ≡ Some x) ⊎ Contains xs x
option_cases None xs x h = inr h
option_cases (Some y) xs x h = elim (contains_cases y xs x h) [
  | inl same ↦ inl (ap Some same)
  | inr later ↦ inr later
]

in_filter : {X Y : Type 0} (f : X → Option Y) (xs : List X) (x : X) (y : Y) → Contains xs x → f x ≡ Some y
    → Contains (filter_map f xs) y
in_filter f [] x y h e = absurd (contains_none x h)
in_filter f (z ∷ zs) x y h e = elim (contains_cases z zs x h) [
  | inl same ↦ in_option (f z) (filter_map f zs) y (ap f same ∙ e)
  | inr later ↦ past_option (f z) (filter_map f zs) y (in_filter f zs x y later e)
]

from_filter : {X Y : Type 0} (f : X → Option Y) (xs : List X) (y : Y) → Contains (filter_map f xs) y
    → (x : X) × Contains xs x × (f x ≡ Some y)
from_filter f [] y h = absurd (contains_none y h)
from_filter f (x ∷ xs) y h = elim (option_cases (f x) (filter_map f xs) y h) [
  | inl here ↦ (x, contains_first x xs, here)
  | inr later ↦ let there = from_filter f xs y later in (there.0, contains_later x there.0 xs there.1, there.2)
]

-- ---- keys that are apart

each_of : {X : Type 0} (P : X → Type 0) (xs : List X) → ((x : X) → Contains xs x → P x) → AllByRecursion P xs
each_of P [] each = tt
each_of P (x ∷ xs) each = (each x (contains_first x xs), each_of P xs (λ y h. each y (contains_later x y xs h)))

each_is : {X : Type 0} (P : X → Type 0) (xs : List X) (x : X) → AllByRecursion P xs → Contains xs x → P x
each_is P [] x all h = absurd (contains_none x h)
each_is P (y ∷ ys) x all h = elim (contains_cases y ys x h) [
  | inl same ↦ subst P same all.0
  | inr later ↦ each_is P ys x all.1 later
]

abbrev AreApart : List LedgerKey → Type 0
AreApart ks = IsDistinct (eq_by_cmp key_cmp) ks

apart_rising : (ks : List LedgerKey) → AreRising ks → AreApart ks
unfolding IsDistinct
apart_rising [] rise = tt
apart_rising (k ∷ ks) rise = (
  each_of (λ q. eq_by_cmp key_cmp k q ≡ false) ks
      (λ q h. ap is_eq (All-contains (λ x. key_cmp k x ≡ Less) ks q rise.0 h)),
  apart_rising ks rise.1,
)

apart_both : (ks qs : List LedgerKey) → AreApart ks → AreApart qs
    → ((k q : LedgerKey) → Contains ks k → Contains qs q → k ≢ q) → AreApart (ks ++ qs)
apart_both [] qs a b cross = b
apart_both (k ∷ ks) qs a b cross =
    IsDistinct-cons (eq_by_cmp key_cmp) k (ks ++ qs)
    (each_of (λ q. eq_by_cmp key_cmp k q ≡ false) (ks ++ qs) (λ q h. elim (Contains-append_cases ks qs q h) [
      | inl early ↦ each_is (λ x. eq_by_cmp key_cmp k x ≡ false) ks q (IsDistinct-head (eq_by_cmp key_cmp) k ks a) early
      | inr late ↦ apart_keys k q (cross k q (contains_first k ks) late)
    ]))
    (apart_both ks qs (IsDistinct-tail (eq_by_cmp key_cmp) k ks a) b
    (λ x q h there. cross x q (contains_later k x ks h) there))

there_is : {X : Type 0} (o : Option X) → o ≢ None → (x : X) × (o ≡ Some x)
there_is None h = absurd (h refl)
there_is (Some x) h = (x, refl)

-- ---- the changes in the order of their keys

-- neither above nor equal
must_be_less : (o r : Ordering) → o ≡ ordering_reverse r → is_lt r ≡ false → is_eq o ≡ false → o ≡ Less
must_be_less Less r e h g = refl
must_be_less Equal r e h g = absurd (cc)
must_be_less Greater Less e h g = absurd (cc)
must_be_less Greater Equal e h g = absurd (cc)
must_be_less Greater Greater e h g = absurd (cc)

all_of : {X : Type 0} (P : X → Type 0) (xs : List X) → AllByRecursion P xs → All P xs
all_of P [] h = search rules
all_of P (x ∷ xs) h = All-cons P x xs h.0 (all_of P xs h.1)

rising_of : (ks : List LedgerKey) → IsStrictlySortedBy key_cmp ks → AreRising ks
unfolding IsStrictlySortedBy
rising_of [] h = tt
rising_of (k ∷ ks) h = (all_of (λ q. key_cmp k q ≡ Less) ks h.0, rising_of ks h.1)

abbrev keys : List KeyedChange → List LedgerKey
keys items = map (λ k. k.key) items

sorted_rise : (items : List KeyedChange) → IsSortedBy (λ a b. is_lt (key_cmp a.key b.key)) items → AreApart (keys items)
    → AreRising (keys items)
sorted_rise [] sorted apart = tt
sorted_rise (first ∷ items) sorted apart =
    let all : List KeyedChange = first ∷ items in
    rising_of (keys all) (sorted_from_all_adjacent keys_total (keys all) first.key (λ k lt.
    let within : k + 1 < length all = omega (arith, lt, length-map all (λ (x : KeyedChange). x.key)) in
    let here : get_or (keys all) k first.key ≡ (get_or all k first).key =
    get_or-map (λ (x : KeyedChange). x.key) all k first first.key (omega arith) in
    let next : get_or (keys all) (k + 1) first.key ≡ (get_or all (k + 1) first).key =
    get_or-map (λ (x : KeyedChange). x.key) all (k + 1) first first.key within in
    must_be_less _ _ (keys_total.antisymm (get_or (keys all) k first.key) (get_or (keys all) (k + 1) first.key))
    (ap (λ q. is_lt (key_cmp q (get_or (keys all) k first.key))) next
    ∙ ap (λ q. is_lt (key_cmp (get_or all (k + 1) first).key q)) here ∙ sorted k first (omega arith) within)
    (apart_from_distinct (eq_by_cmp key_cmp) (keys all) k (k + 1) first.key apart (omega arith) lt)))

-- ---- the changes of a batch

module _ (base : EntryMap) (batch : Batch) (over : IsBatchOver base batch) (live_keyed : IsKeyedFor base batch.live)
    (dead_keyed : IsKeyedFor base batch.dead) where
  own_key : {X : Type 0} (xs : List X) (x : X) (k : LedgerKey) (b : LedgerEntry) → IsKeyedFor base xs → Contains xs x
      → get base k ≡ Some b → key_of b ≡ k
  own_key xs x k b (inl none) h there = absurd (contains_none x (subst (λ l. Contains l x) none h))
  own_key xs x k b (inr is) h there = subst (λ o. IfSome o (λ e. key_of e ≡ k)) there (is k)

  -- what is changed or removed exists in the base
  was : (a : LedgerEntry) → Contains batch.live a → (b : LedgerEntry) × (get base (key_of a) ≡ Some b)
  was a h = let changes = ((over.1.live a).0 h).1 in (changes.0, changes.1)

  gone : (k : LedgerKey) → Contains batch.dead k → (b : LedgerEntry) × (get base k ≡ Some b)
  gone k h = there_is (get base k) ((over.1.dead k).0 h).0

  -- each item is a change beside its key
  record IsItem (x : KeyedChange) : Type 0 where
    change : Change
    item : x ≡ keyed change
    of : IsChangeOf base batch change

  created_item : (x : KeyedChange) → Contains (map creation batch.init) x → IsItem x
  created_item x h =
      let from = from_map creation batch.init x h in
      record { change = Created from.0; item = sym from.2; of = from.1 }

  updated_item : (x : KeyedChange) → Contains (filter_map (update_in base) batch.live) x → IsItem x
  updated_item x h =
      let from = from_filter (update_in base) batch.live x h in
      let a : LedgerEntry = from.0 in
      let old = was a from.1 in
      let same : key_of old.0 ≡ key_of a = own_key batch.live a (key_of a) old.0 live_keyed from.1 old.1 in
      let made : Some (keyed (Updated old.0 a)) ≡ Some x =
      ap (option_map (λ b. keyed (Updated b a))) (sym old.1) ∙ from.2 in
      record {
        change = Updated old.0 a;
        item = cc made;
        of = (from.1, sym same, ap (get base) same ∙ old.1);
      }

  removed_item : (x : KeyedChange) → Contains (filter_map (removal_in base) batch.dead) x → IsItem x
  removed_item x h =
      let from = from_filter (removal_in base) batch.dead x h in
      let k : LedgerKey = from.0 in
      let old = gone k from.1 in
      let same : key_of old.0 ≡ k = own_key batch.dead k k old.0 dead_keyed from.1 old.1 in
      let made : Some (keyed (Removed old.0)) ≡ Some x =
      ap (option_map (λ b. keyed (Removed b))) (sym old.1) ∙ from.2 in
      record {
        change = Removed old.0;
        item = cc made;
        of = (subst (λ q. Contains batch.dead q) (sym same) from.1, ap (get base) same ∙ old.1);
      }

  item_is : (x : KeyedChange) → Contains (unsorted base batch) x → IsItem x
  item_is x h =
      let created = map creation batch.init in
      let updated = filter_map (update_in base) batch.live in
      elim (Contains-append_cases (created ++ updated) (filter_map (removal_in base) batch.dead) x h) [
        | inl early ↦ elim (Contains-append_cases created updated x early) [
          | inl first ↦ created_item x first
          | inr second ↦ updated_item x second
        ]
        | inr third ↦ removed_item x third
      ]

  -- and each change is beside its key in one
  parted : (c : Change) → IsChangeOf base batch c
      → Contains (map creation batch.init) (keyed c)
      ⊎ (Contains (filter_map (update_in base) batch.live) (keyed c)
      ⊎ Contains (filter_map (removal_in base) batch.dead) (keyed c))
  parted (Created a) h = inl (in_map creation batch.init a h)
  parted (Updated b a) h =
      let there : get base (key_of a) ≡ Some b = ap (get base) h.1 ∙ h.2 in
      inr (inl (in_filter (update_in base) batch.live a (keyed (Updated b a)) h.0
      (ap (option_map (λ x. keyed (Updated x a))) there)))
  parted (Removed b) h =
      inr (inr (in_filter (removal_in base) batch.dead (key_of b) (keyed (Removed b)) h.0
      (ap (option_map (λ x. keyed (Removed x))) h.1)))

  is_item : (c : Change) → IsChangeOf base batch c → Contains (unsorted base batch) (keyed c)
  is_item c h =
      let created = map creation batch.init in
      let updated = filter_map (update_in base) batch.live in
      let removed = filter_map (removal_in base) batch.dead in
      elim (parted c h) [
        | inl first ↦ Contains-append_left (created ++ updated) removed (keyed c)
            (Contains-append_left created updated (keyed c) first)
        | inr others ↦ elim others [
          | inl second ↦ Contains-append_left (created ++ updated) removed (keyed c)
              (Contains-append_right created updated (keyed c) second)
          | inr third ↦ Contains-append_right (created ++ updated) removed (keyed c) third
        ]
      ]

  -- ---- their keys are apart

  created_keys : (es : List LedgerEntry) → keys (map creation es) ≡ map key_of es
  created_keys [] = refl
  created_keys (a ∷ es) = ap (λ ks. key_of a ∷ ks) (created_keys es)

  updated_keys : (es : List LedgerEntry) → ((a : LedgerEntry) → Contains es a → Contains batch.live a)
      → keys (filter_map (update_in base) es) ≡ map key_of es
  updated_keys [] within = refl
  updated_keys (a ∷ es) within =
      let h = within a (contains_first a es) in
      let old = was a h in
      let others = updated_keys es (λ x there. within x (contains_later a x es there)) in
      ap (λ o. keys (cons_option (option_map (λ b. keyed (Updated b a)) o) (filter_map (update_in base) es))) old.1
      ∙ ap (λ k. k ∷ keys (filter_map (update_in base) es)) (own_key batch.live a (key_of a) old.0 live_keyed h old.1)
      ∙ ap (λ ks. key_of a ∷ ks) others

  removed_keys : (ks : List LedgerKey) → ((k : LedgerKey) → Contains ks k → Contains batch.dead k)
      → keys (filter_map (removal_in base) ks) ≡ ks
  removed_keys [] within = refl
  removed_keys (k ∷ ks) within =
      let h = within k (contains_first k ks) in
      let old = gone k h in
      let others = removed_keys ks (λ x there. within x (contains_later k x ks there)) in
      ap (λ o. keys (cons_option (option_map (λ b. keyed (Removed b)) o) (filter_map (removal_in base) ks))) old.1
      ∙ ap (λ q. q ∷ keys (filter_map (removal_in base) ks)) (own_key batch.dead k k old.0 dead_keyed h old.1)
      ∙ ap (λ qs. k ∷ qs) others

  abbrev batch_keys : List LedgerKey
  batch_keys = (map key_of batch.init ++ map key_of batch.live) ++ batch.dead

  unsorted_keys : keys (unsorted base batch) ≡ batch_keys
  unsorted_keys =
      let created = map creation batch.init in
      let updated = filter_map (update_in base) batch.live in
      let removed = filter_map (removal_in base) batch.dead in
      map-append (λ (x : KeyedChange). x.key) (created ++ updated) removed
      ∙ ap (λ ks. ks ++ keys removed) (map-append (λ (x : KeyedChange). x.key) created updated)
      ∙ ap (λ ks. (ks ++ keys updated) ++ keys removed) (created_keys batch.init)
      ∙ ap (λ ks. (map key_of batch.init ++ ks) ++ keys removed) (updated_keys batch.live (λ a h. h))
      ∙ ap (λ ks. (map key_of batch.init ++ map key_of batch.live) ++ ks) (removed_keys batch.dead (λ k h. h))

  new_key : (k : LedgerKey) → Contains (map key_of batch.init) k → get base k ≡ None
  new_key k h =
      let from = from_map key_of batch.init k h in
      subst (λ q. get base q ≡ None) from.2 ((over.1.init from.0).0 from.1).1

  changed_key : (k : LedgerKey) → Contains (map key_of batch.live) k
      → ((b : LedgerEntry) × (get base k ≡ Some b)) × ((a : LedgerEntry) × (get over.0 k ≡ Some a))
  changed_key k h =
      let from = from_map key_of batch.live k h in
      let changes = (over.1.live from.0).0 from.1 in
      let old = was from.0 from.1 in (
        (old.0, subst (λ q. get base q ≡ Some old.0) from.2 old.1),
        (from.0, subst (λ q. get over.0 q ≡ Some from.0) from.2 changes.0),
      )

  keys_apart : AreApart batch_keys
  keys_apart =
      let is = over.1 in
      apart_both (map key_of batch.init ++ map key_of batch.live) batch.dead
      (apart_both (map key_of batch.init) (map key_of batch.live) (apart_rising (map key_of batch.init) is.init_rises)
      (apart_rising (map key_of batch.live) is.live_rises) (λ k q h there e.
      let none : get base k ≡ None = new_key k h in
      let some = (changed_key q there).0 in
      cc (ap (get base) e, none, some.1)))
      (apart_rising batch.dead is.dead_rises)
      (λ k q h there e. elim (Contains-append_cases (map key_of batch.init) (map key_of batch.live) k h) [
        | inl new ↦
            let none : get base k ≡ None = new_key k new in
            let some = gone q there in
            cc (ap (get base) e, none, some.1)
        | inr changes ↦
            let some = (changed_key k changes).1 in
            let none : get over.0 q ≡ None = ((is.dead q).0 there).1 in
            cc (ap (get over.0) e, none, some.1)
      ])

  -- ---- all

  own_keys : (items : List KeyedChange) → ((x : KeyedChange) → Contains items x → Contains (unsorted base batch) x)
      → keys items ≡ map key_in (map (λ x. x.change) items)
  own_keys [] within = refl
  own_keys (x ∷ items) within =
      let is = item_is x (within x (contains_first x items)) in
      let same : x.key ≡ key_in x.change =
      ap (λ (y : KeyedChange). y.key) is.item ∙ ap (λ (y : KeyedChange). key_in y.change) (sym is.item) in
      ap (λ k. k ∷ keys items) same
      ∙ ap (λ ks. key_in x.change ∷ ks) (own_keys items (λ y h. within y (contains_later x y items h)))

  pub changes_made : (cs : List Change) → AreSorted (unsorted base batch) cs → AreChangesOf base batch cs
  changes_made cs s =
      let all = unsorted base batch in
      let back = λ (x : KeyedChange) (h : Contains s.keyed x).
      Contains-permutation s.keyed all x (IsPermutation-sym all s.keyed s.same) h in
      let apart : AreApart (keys s.keyed) =
      IsDistinct-IsPermutation (eq_by_cmp key_cmp) (eq_by_cmp_equiv keys_total).symm (keys all) (keys s.keyed)
      (IsPermutation-map (λ (x : KeyedChange). x.key) all s.keyed s.same)
      (subst AreApart (sym unsorted_keys) keys_apart) in
      record {
        rise = subst (λ l. AreRising (map key_in l)) (sym s.without)
            (subst AreRising (own_keys s.keyed back) (sorted_rise s.keyed s.sorted apart));
        each = λ c. (
          (λ h.
              let from = from_map (λ (x : KeyedChange). x.change) s.keyed c (subst (λ l. Contains l c) s.without h) in
              let is = item_is from.0 (back from.0 from.1) in
              subst (IsChangeOf base batch) (ap (λ (x : KeyedChange). x.change) (sym is.item) ∙ from.2) is.of),
          (λ h. subst (λ l. Contains l c) (sym s.without)
              (in_map (λ (x : KeyedChange). x.change) s.keyed (keyed c)
              (Contains-permutation all s.keyed (keyed c) s.same (is_item c h)))),
        );
      }

-- what was added one after another is all of them
pub gathered : (base : EntryMap) (batch : Batch) (none first second third : List KeyedChange)
    (init live : List LedgerEntry) (dead : List LedgerKey) → none ≡ [] → init ≡ batch.init → live ≡ batch.live
    → dead ≡ batch.dead → first ≡ none ++ map creation init → second ≡ first ++ filter_map (update_in base) live
    → third ≡ second ++ filter_map (removal_in base) dead → third ≡ unsorted base batch
gathered base batch none first second third init live dead none_is init_is live_is dead_is one two three =
    three
    ∙ ap (λ l. l ++ filter_map (removal_in base) dead)
    (two ∙ ap (λ l. l ++ filter_map (update_in base) live) (one ∙ ap (λ l. l ++ map creation init) none_is))
    ∙ ap (λ l. (map creation l ++ filter_map (update_in base) live) ++ filter_map (removal_in base) dead) init_is
    ∙ ap (λ l. (map creation batch.init ++ filter_map (update_in base) l) ++ filter_map (removal_in base) dead) live_is
    ∙ ap (λ l. (map creation batch.init ++ filter_map (update_in base) batch.live) ++ filter_map (removal_in base) l)
    dead_is
