-- A batch that takes what changed at each changed key, in the order of keys, is the batch of what changed.
use Rattle.entry_map.proofs.Prelude.{◌≡◌, ◌↔◌, inl, inr, refl, sym, ap, subst, ◌∙◌, true, false, ◌||◌, List, [], ◌∷◌}
use Rattle.entry_map.proofs.Prelude.{◌++◌, Option, Some, None, IfSome, option_to_list, map, All, Contains, append_assoc}
use Rattle.entry_map.proofs.Prelude.{length, Less, is_some, empty, get, contains_key, get-empty, All-nil, All-cons}
use Rattle.entry_map.proofs.Prelude.{All-contains, Contains-append_left, Contains-append_right, Contains-append_cases}
use Rattle.entry_map.proofs.Prelude.{Contains-push, Contains-push_cases, LedgerKey, LedgerEntry, key_of, key_cmp, Batch}
use Rattle.entry_map.proofs.Prelude.{EntryMap, KeyedMap, AreRising, AreKeysOf, LayerMap, under, under_one, is_changed}
use Rattle.entry_map.proofs.Prelude.{parts_of, IsNew, IsChanged, IsGone, IsBatch, AreChangedKeys, IsNoted, IsNotedAt}
use Rattle.entry_map.proofs.Prelude.{Answers, Takes, nil_contains_nothing, nil_from_length}
use Rattle.entry_map.proofs.Prelude.{arith, Bool}
use Rattle.std.proofs.lemmas.List.{append-nil}
use Rattle.entry_map.proofs.KnownKeys.{unchanged}

-- ---- one key

module _ {X : Type 0} (key : X → LedgerKey) (P : X → Type 0) (k : LedgerKey) (old new : List X) where
  takes_none : ((x : X) → key x ≡ k → P x → ⊥) → new ≡ old → Takes key P k old new
  takes_none never is = (None, (λ x. (λ e. cc, λ h. absurd (never x h.0 h.1))), is ∙ sym (append-nil old))

  takes_one : (x : X) → key x ≡ k → P x → ((y : X) → key y ≡ k → P y → x ≡ y) → new ≡ old ++ x ∷ []
      → Takes key P k old new
  takes_one x own holds only is = (
    Some x,
    (λ y. (
      λ e. let same : x ≡ y = cc in
          (subst (λ z. key z ≡ k) same own, subst P same holds),
      λ h. ap Some (only y h.0 h.1),
    )),
    is,
  )

module _ (before after : EntryMap) (k : LedgerKey) where
  not_after : get after k ≡ None → (x : LedgerEntry) → key_of x ≡ k → get after (key_of x) ≡ Some x → ⊥
  not_after none x own there = cc (ap (get after) own)

  the_one_after : (e : LedgerEntry) → get after k ≡ Some e → (x : LedgerEntry) → key_of x ≡ k
      → get after (key_of x) ≡ Some x → e ≡ x
  the_one_after e there x own is = cc (ap (get after) own)

  pub noted : (b a : Option LedgerEntry) (old new : Batch) → b ≡ get before k → a ≡ get after k
      → IfSome b (λ e. key_of e ≡ k) → IfSome a (λ e. key_of e ≡ k)
      → IsNoted b a k old new → IsNotedAt before after k old new
  noted None None old new was is own_was own is_noted = record {
    init = takes_none key_of (IsNew before after) k _ _ (λ x own p. not_after (sym is) x own p.0) (ap
        (λ z. z.init) is_noted);
    live = takes_none key_of (IsChanged before after) k _ _ (λ x own p. not_after (sym is) x own p.0) (ap
        (λ z. z.live) is_noted);
    dead = takes_none (λ q. q) (IsGone before after) k _ _ (λ q own p. p.0 (ap (get before) own ∙ sym was)) (ap
        (λ z. z.dead) is_noted);
  }
  noted None (Some e) old new was is own_was own is_noted = record {
    init = takes_one key_of (IsNew before after) k _ _ e own (
      ap (get after) own ∙ sym is,
      ap (get before) own
          ∙ sym was,
    ) (λ y own_y p. the_one_after e (sym is) y own_y p.0) (ap (λ z. z.init) is_noted);
    live = takes_none key_of (IsChanged before after) k _ _ (λ x own_x p. cc (ap (get before) own_x, p.1.1, was)) (ap
        (λ z. z.live) is_noted);
    dead = takes_none (λ q. q) (IsGone before after) k _ _ (λ q own_q p. p.0 (ap (get before) own_q ∙ sym was)) (ap
        (λ z. z.dead) is_noted);
  }
  noted (Some o) None old new was is own_was own is_noted = record {
    init = takes_none key_of (IsNew before after) k _ _ (λ x own_x p. not_after (sym is) x own_x p.0) (ap
        (λ z. z.init) is_noted);
    live = takes_none key_of (IsChanged before after) k _ _ (λ x own_x p. not_after (sym is) x own_x p.0) (ap
        (λ z. z.live) is_noted);
    dead = takes_one (λ q. q) (IsGone before after) k _ _ k refl ((λ none. cc (none, was)), sym is)
        (λ y own_y p. sym own_y) (ap (λ z. z.dead) is_noted);
  }
  noted (Some o) (Some e) old new was is own_was own (inl (same, kept)) = record {
    init = takes_none key_of (IsNew before after) k _ _ (λ x own_x p. cc (ap (get before) own_x, p.1, was)) (ap
        (λ z. z.init) kept);
    live = takes_none key_of (IsChanged before after) k _ _ (λ x own_x p.
        let one : e ≡ x = the_one_after e (sym is) x own_x p.0 in
        let first : o ≡ p.1.0 = cc (ap (get before) own_x, p.1.1, was) in
        p.1.2 (sym (ap parts_of first) ∙ same ∙ ap parts_of one)) (ap (λ z. z.live) kept);
    dead = takes_none (λ q. q) (IsGone before after) k _ _ (λ q own_q p. cc (ap (get after) own_q, p.1, is)) (ap
        (λ z. z.dead) kept);
  }
  noted (Some o) (Some e) old new was is own_was own (inr (other, put)) = record {
    init = takes_none key_of (IsNew before after) k _ _ (λ x own_x p. cc (ap (get before) own_x, p.1, was)) (ap
        (λ z. z.init) put);
    live = takes_one key_of (IsChanged before after) k _ _ e own (
      ap (get after) own ∙ sym is,
      (
        o,
        ap (get before) own
            ∙ sym was,
        other,
      ),
    ) (λ y own_y p. the_one_after e (sym is) y own_y p.0) (ap (λ z. z.live) put);
    dead = takes_none (λ q. q) (IsGone before after) k _ _ (λ q own_q p. cc (ap (get after) own_q, p.1, is)) (ap
        (λ z. z.dead) put);
  }

-- ---- all keys

contains_one : {X : Type 0} (x : X) → Contains (x ∷ []) x
contains_one x = Contains-push [] x

contains_first : {X : Type 0} (x y : X) (ys : List X) → x ≡ y → Contains (x ∷ ys) y
contains_first x y ys e = subst (Contains (x ∷ ys)) e (Contains-append_left (x ∷ []) ys x (contains_one x))

contains_later : {X : Type 0} (x y : X) (ys : List X) → Contains ys y → Contains (x ∷ ys) y
contains_later x y ys h = Contains-append_right (x ∷ []) ys y h

contains_cases : {X : Type 0} (P : Type 0) (x y : X) (ys : List X) → Contains (x ∷ ys) y → (x ≡ y → P) →
    (Contains ys y → P) → P
contains_cases P x y ys h f g = elim (Contains-append_cases (x ∷ []) ys y h) [
  | inl one ↦ elim (Contains-push_cases [] x y one)
      [ inl none ↦ absurd (nil_contains_nothing y none) | inr same ↦ f same ]
  | inr later ↦ g later
]

map_same : {X : Type 0} (xs : List X) → map (λ x. x) xs ≡ xs
map_same [] = refl
map_same (x ∷ xs) = ap (λ ys. x ∷ ys) (map_same xs)

module _ {X : Type 0} (key : X → LedgerKey) (P : X → Type 0) where
  -- xs are the values, of which P holds, that have the keys, in their order
  abbrev pub Picks : List LedgerKey → List X → Type 0
  Picks [] xs = xs ≡ []
  Picks (k ∷ ks) xs = (o : Option X) × (ys : List X) × Answers key P k o × Picks ks ys × (xs ≡ option_to_list o ++ ys)

  pub picks_more : (ks : List LedgerKey) (k : LedgerKey) (xs more : List X) → Picks ks xs → Takes key P k xs more
      → Picks (ks ++ k ∷ []) more
  picks_more [] k xs more none (o, answers, is) =
      (o, [], answers, refl, is ∙ ap (λ ys. ys ++ option_to_list o) none ∙ sym (append-nil (option_to_list o)))
  picks_more (q ∷ ks) k xs more (p, ys, first, rest, was) (o, answers, is) = (
    p,
    ys ++ option_to_list o,
    first,
    picks_more ks k ys (ys ++ option_to_list o) rest (o, answers, refl),
    is ∙ ap (λ zs. zs ++ option_to_list o) was ∙ append_assoc (option_to_list p) ys (option_to_list o),
  )

  picked : (ks : List LedgerKey) (xs : List X) → Picks ks xs → (x : X) → Contains xs x → Contains ks (key x) × P x
  picked [] xs none x h = absurd (nil_contains_nothing x (subst (λ ys. Contains ys x) none h))
  picked (k ∷ ks) xs (None, ys, answers, rest, is) x h =
      let later = picked ks ys rest x (subst (λ zs. Contains zs x) is h) in
      (contains_later k (key x) ks later.0, later.1)
  picked (k ∷ ks) xs (Some y, ys, answers, rest, is) x h =
      contains_cases (Contains (k ∷ ks) (key x) × P x) y x ys (subst (λ zs. Contains zs x) is h)
      (λ same. let facts = (answers x).0 (ap Some same) in (contains_first k (key x) ks (sym facts.0), facts.1))
      (λ later. let facts = picked ks ys rest x later in (contains_later k (key x) ks facts.0, facts.1))

  picks : (ks : List LedgerKey) (xs : List X) → Picks ks xs → (x : X) → Contains ks (key x) → P x → Contains xs x
  picks [] xs none x h holds = absurd (nil_contains_nothing (key x) h)
  picks (k ∷ ks) xs (o, ys, answers, rest, is) x h holds =
      subst (λ zs. Contains zs x) (sym is) (contains_cases (Contains (option_to_list o ++ ys) x) k (key x) ks h
      (λ same. Contains-append_left (option_to_list o) ys x (subst (λ p. Contains (option_to_list p) x) (sym
      ((answers x).1 (sym same, holds))) (contains_one x)))
      (λ later. Contains-append_right (option_to_list o) ys x (picks ks ys rest x later holds)))

  all_keys : (Q : LedgerKey → Type 0) (xs : List X) → ((x : X) → Contains xs x → Q (key x)) → All Q (map key xs)
  all_keys Q [] h = All-nil Q
  all_keys Q (x ∷ xs) h =
      All-cons Q (key x) (map key xs) (h x (contains_first x x xs refl)) (all_keys Q xs (λ y there. h y
      (contains_later x y xs there)))

  pub picks_rise : (ks : List LedgerKey) (xs : List X) → AreRising ks → Picks ks xs → AreRising (map key xs)
  picks_rise [] xs rising none = subst (λ ys. AreRising (map key ys)) (sym none) tt
  picks_rise (k ∷ ks) xs rising (None, ys, answers, rest, is) =
      subst (λ zs. AreRising (map key zs)) (sym is) (picks_rise ks ys rising.1 rest)
  picks_rise (k ∷ ks) xs rising (Some x, ys, answers, rest, is) = subst (λ zs. AreRising (map key zs)) (sym is) (
    all_keys (λ q. key_cmp (key x) q ≡ Less) ys (λ y there. subst (λ q. key_cmp q (key y)
        ≡ Less) (sym ((answers x).0 refl).0) (All-contains (λ q. key_cmp k q ≡ Less) ks (key y) rising.0
        (picked ks ys rest y there).0)),
    picks_rise ks ys rising.1 rest,
  )

  pub picks_all : (ks : List LedgerKey) (xs : List X) → Picks ks xs → ((x : X) → P x → Contains ks (key x)) → (x : X)
      → Contains xs x ↔ P x
  picks_all ks xs all known x = (λ h. (picked ks xs all x h).1, λ holds. picks ks xs all x (known x holds) holds)

-- ---- the batch

module _ (m : EntryMap) (ls : List LayerMap) (top : LayerMap) (ks : List LedgerKey)
    (changed : AreChangedKeys ls top ks) where
  abbrev current : EntryMap
  current = under_one (under m ls) top

  -- a key at which the maps differ is among the changed ones
  differs : (q : LedgerKey) → (get current q ≡ get m q → ⊥) → Contains ks q
  differs q apart = (changed.all q).1 (
      elim (contains_key top q || is_changed ls q) as (λ b. (contains_key top q || is_changed ls q) ≡ b → b ≡ true) [
        | true ↦ λ e. refl
        | false ↦ λ e. absurd (apart (unchanged m ls top q e))
      ] refl)

  pub batch_is : (batch : Batch) → Picks key_of (IsNew m current) ks batch.init
      → Picks key_of (IsChanged m current) ks batch.live → Picks (λ q. q) (IsGone m current) ks batch.dead
      → IsBatch m current batch
  batch_is batch init live dead = record {
    init_rises = picks_rise key_of (IsNew m current) ks batch.init changed.rises init;
    init = picks_all key_of (IsNew m current) ks batch.init init (λ e new. differs (key_of e) (λ same. cc
        (same, new.0, new.1)));
    live_rises = picks_rise key_of (IsChanged m current) ks batch.live changed.rises live;
    live = picks_all key_of (IsChanged m current) ks batch.live live (λ e is. differs (key_of e)
        (λ same. let old : is.1.0 ≡ e = cc (same, is.0, is.1.1) in is.1.2 (ap parts_of old)));
    dead_rises = subst AreRising (map_same batch.dead) (picks_rise (λ q. q)
        (IsGone m current) ks batch.dead changed.rises dead);
    dead = picks_all (λ q. q) (IsGone m current) ks batch.dead dead (λ q gone. differs q (λ same. gone.0
        (sym same ∙ gone.1)));
  }

-- ---- the changed keys

pub changed_keys_are : {V : Type 0} (ls : List LayerMap) (top : LayerMap) (first : KeyedMap V) (second : KeyedMap V)
    (third : KeyedMap V) (ks : List LedgerKey) → first ≡ empty
    → ((q : LedgerKey) → contains_key second q ≡ (contains_key first q || contains_key top q)) →
    ((q : LedgerKey) → contains_key third q ≡ (contains_key second q || is_changed ls q))
    → AreKeysOf third ks → AreChangedKeys ls top ks
changed_keys_are ls top first second third ks nothing by_top by_all listed = record {
  rises = listed.rises;
  all = λ q. let is : contains_key third q ≡ (contains_key top q || is_changed ls q) = by_all q
      ∙ ap (λ b. b || is_changed ls q) (by_top q
      ∙ ap (λ b. b || contains_key top q) (ap (λ x. contains_key x q) nothing ∙ ap is_some (get-empty key_cmp q))) in
      (λ h. sym is ∙ (listed.all q).0 h, λ h. (listed.all q).1 (is ∙ h));
}

or_nothing : (b : Bool) → (b || false) ≡ b
or_nothing true = refl
or_nothing false = refl

-- those of one layer
pub keys_of_one : (ls : List LayerMap) (top : LayerMap) (ks : List LedgerKey) → length ls ≡ 0 → AreKeysOf top ks
    → AreChangedKeys ls top ks
keys_of_one [] top ks none listed = record {
  rises = listed.rises;
  all = λ q. let is = or_nothing (contains_key top q) in
      (λ h. is ∙ (listed.all q).0 h, λ h. (listed.all q).1 (sym is ∙ h));
}
keys_of_one (l ∷ ls) top ks none listed = absurd (omega arith)

pub all_yielded : {X : Type 0} (yielded left : List X) → length left ≡ 0 → yielded ++ left ≡ yielded
all_yielded yielded left h = ap (λ xs. yielded ++ xs) (nil_from_length left h) ∙ append-nil yielded
