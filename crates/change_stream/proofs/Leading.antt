-- The changes of a close lead from the entries before it to those after it.
use Rattle.change_stream.proofs.Prelude.{All, Applies, AreChangesOf, AreRising, Batch, Change, Contains}
use Rattle.change_stream.proofs.Prelude.{Contains-append_cases, Contains-append_left, Contains-append_right, Created}
use Rattle.change_stream.proofs.Prelude.{EntryMap, Equal, Fits, IfSome, IsChangeOf, IsKeyed, LedgerEntry, LedgerKey}
use Rattle.change_stream.proofs.Prelude.{Less, List, None, Option, Removed, Some, Updated, [], ap, arith, changed}
use Rattle.change_stream.proofs.Prelude.{eq_by_cmp, erase_elsewhere, erase_there, false, get, inl, inr, key_cmp}
use Rattle.change_stream.proofs.Prelude.{key_in, key_of, keys_exact, keys_total, map, put, put_elsewhere, put_there}
use Rattle.change_stream.proofs.Prelude.{refl, same_itself, same_keys, same_map, subst, sym, true, ℕ, ◌∙◌, ◌∷◌, ◌≡◌}
use Rattle.change_stream.proofs.Prelude.{◌≢◌, ◌⊎◌}
use Rattle.std.proofs.lemmas.List.Elements.{All-head, All-tail, Contains-push, Contains-push_cases}
use Rattle.std.specs.Cmp.{tied_itself}
use Rattle.entry_changes.specs.Next.{AreNextEntries, IsNextAt, stamped}
use Rattle.entry_map.specs.Batch.{IsBatch, IsChanged, IsGone, IsNew, parts_of}
use Rattle.change_stream.specs.Changes.{result_of}
use Rattle.change_stream.specs.Laws.{ChangesLead, ChangesLeadBack}
use Rattle.change_stream.proofs.Undoing.{reverse_undoes}

-- a key below another is another
below_is_other : (k q : LedgerKey) → key_cmp k q ≡ Less → q ≢ k
below_is_other k q less e =
    let tied : key_cmp k q ≡ Equal = subst (λ x. key_cmp k x ≡ Equal) (sym e) (tied_itself keys_total k) in
    absurd (cc)

-- ---- at other keys a change leaves the map

elsewhere : (m : EntryMap) (c : Change) → Fits m c → (q : LedgerKey) → q ≢ key_in c → get (changed m c) q ≡ get m q
elsewhere m (Created a) h q apart = put_elsewhere m a q apart
elsewhere m (Updated b a) h q apart = put_elsewhere m a q (λ e. apart (e ∙ h.0))
elsewhere m (Removed b) h q apart = erase_elsewhere m (key_of b) q apart

at_key : (m : EntryMap) (c : Change) → Fits m c → get (changed m c) (key_in c) ≡ result_of c
at_key m (Created a) h = put_there m a
at_key m (Updated b a) h = subst (λ k. get (put m a) k ≡ Some a) h.0 (put_there m a)
at_key m (Removed b) h = erase_there m (key_of b)

-- a change fits a map that has the same at its key
fits_same : (m n : EntryMap) (c : Change) → get n (key_in c) ≡ get m (key_in c) → Fits m c → Fits n c
fits_same m n (Created a) same h = same ∙ h
fits_same m n (Updated b a) same h = (h.0, same ∙ h.1)
fits_same m n (Removed b) same h = same ∙ h

-- ---- changes under rising keys

-- each fits the map before all of them
abbrev EachFits : EntryMap → List Change → Type 0
EachFits m [] = Unit {0}
EachFits m (c ∷ cs) = Fits m c × EachFits m cs

-- the keys are other ones than k
abbrev AllOther : LedgerKey → List Change → Type 0
AllOther k [] = Unit {0}
AllOther k (c ∷ cs) = (key_in c ≢ k) × AllOther k cs

all_above : (k : LedgerKey) (cs : List Change) → All (λ q. key_cmp k q ≡ Less) (map key_in cs) → AllOther k cs
all_above k [] h = tt
all_above k (c ∷ cs) h = (
  below_is_other k (key_in c) (All-head (λ q. key_cmp k q ≡ Less) (key_in c) (map key_in cs) h),
  all_above k cs (All-tail (λ q. key_cmp k q ≡ Less) (key_in c) (map key_in cs) h),
)

still_fit : (m n : EntryMap) (k : LedgerKey) (cs : List Change) → ((q : LedgerKey) → q ≢ k → get n q ≡ get m q)
    → AllOther k cs → EachFits m cs → EachFits n cs
still_fit m n k [] same other fit = tt
still_fit m n k (c ∷ cs) same other fit =
    (fits_same m n c (same (key_in c) other.0) fit.0, still_fit m n k cs same other.1 fit.1)

-- the map after all of them
abbrev pub all_changed : EntryMap → List Change → EntryMap
all_changed m [] = m
all_changed m (c ∷ cs) = all_changed (changed m c) cs

leads : (m : EntryMap) (cs : List Change) → AreRising (map key_in cs) → EachFits m cs → Applies m cs (all_changed m cs)
leads m [] rise fit = refl
leads m (c ∷ cs) rise fit = (
  fit.0,
  leads (changed m c) cs rise.1 (still_fit m (changed m c) (key_in c) cs (elsewhere m c fit.0)
      (all_above (key_in c) cs rise.0) fit.1),
)

-- ---- lists

pub contains_first : {X : Type 0} (x : X) (ys : List X) → Contains (x ∷ ys) x
contains_first x ys = Contains-append_left (x ∷ []) ys x (Contains-push [] x)

pub contains_later : {X : Type 0} (x y : X) (ys : List X) → Contains ys y → Contains (x ∷ ys) y
contains_later x y ys h = Contains-append_right (x ∷ []) ys y h

pub contains_none : {X : Type 0} (x : X) → Contains [] x → ⊥
contains_none x h = omega (arith, h.1)

pub contains_cases : {X : Type 0} (x : X) (ys : List X) (y : X) → Contains (x ∷ ys) y → (x ≡ y) ⊎ Contains ys y
contains_cases x ys y h = elim (Contains-append_cases (x ∷ []) ys y h) [
  | inl one ↦ elim (Contains-push_cases [] x y one) [
    | inl none ↦ absurd (contains_none y none)
    | inr same ↦ inl same
  ]
  | inr later ↦ inr later
]

-- a change that is there isn't of a key that all are other than
none_there : (k : LedgerKey) (cs : List Change) (c : Change) → AllOther k cs → Contains cs c → key_in c ≢ k
none_there k [] c other h = absurd (contains_none c h)
none_there k (d ∷ cs) c other h = elim (contains_cases d cs c h) [
  | inl same ↦ subst (λ x. key_in x ≢ k) same other.0
  | inr later ↦ none_there k cs c other.1 later
]

-- ---- what there is under a key after all of them

-- what a change of the key left
record At (n : EntryMap) (cs : List Change) (k : LedgerKey) : Type 0 where
  by : Change
  there : Contains cs by
  key : key_in by ≡ k
  is : get n k ≡ result_of by

-- no change is of the key
record Left (m n : EntryMap) (cs : List Change) (k : LedgerKey) : Type 0 where
  others : AllOther k cs
  same : get n k ≡ get m k

found_here : (m : EntryMap) (c : Change) (cs : List Change) → Fits m c → (k : LedgerKey)
    → Left (changed m c) (all_changed m (c ∷ cs)) cs k
    → At (all_changed m (c ∷ cs)) (c ∷ cs) k ⊎ Left m (all_changed m (c ∷ cs)) (c ∷ cs) k
found_here m c cs fit k left = elim (eq_by_cmp key_cmp k (key_in c)) as
    (λ b. eq_by_cmp key_cmp k (key_in c) ≡ b
    → At (all_changed m (c ∷ cs)) (c ∷ cs) k ⊎ Left m (all_changed m (c ∷ cs)) (c ∷ cs) k) [
      | true ↦ λ tied. let e : k ≡ key_in c = same_keys k (key_in c) tied in inl (record {
        by = c;
        there = contains_first c cs;
        key = sym e;
        is = left.same ∙ ap (get (changed m c)) e ∙ at_key m c fit;
      })
      | false ↦ λ other.
          let apart : k ≢ key_in c = λ e. let is : eq_by_cmp key_cmp k (key_in c) ≡ true =
          ap (λ x. eq_by_cmp key_cmp k x) (sym e) ∙ same_itself k in absurd (cc) in
          inr (record {
            others = ((λ e. apart (sym e)), left.others);
            same = left.same ∙ elsewhere m c fit k apart;
          })
    ] refl

found_at : (m : EntryMap) (cs : List Change) → AreRising (map key_in cs) → EachFits m cs → (k : LedgerKey)
    → At (all_changed m cs) cs k ⊎ Left m (all_changed m cs) cs k
found_at m [] rise fit k = inr (record { others = tt; same = refl })
found_at m (c ∷ cs) rise fit k =
    elim (found_at (changed m c) cs rise.1 (still_fit m (changed m c) (key_in c) cs (elsewhere m c fit.0)
    (all_above (key_in c) cs rise.0) fit.1) k) [
      | inl at ↦ inl (record {
        by = at.by;
        there = contains_later c at.by cs at.there;
        key = at.key;
        is = at.is;
      })
      | inr left ↦ found_here m c cs fit.0 k left
    ]

-- ---- the entries after a close

-- an entry that was there and is there is the same, or its parts differ
pub record EachDiffers (before after : EntryMap) : Type 0 where
  pub either : (k : LedgerKey) (was e : LedgerEntry) → get before k ≡ Some was → get after k ≡ Some e
      → (was ≡ e) ⊎ (parts_of was ≢ parts_of e)

next_either : (seq : ℕ) (b w a : Option LedgerEntry) (was e : LedgerEntry) → IsNextAt seq b w a → b ≡ Some was
    → a ≡ Some e → (was ≡ e) ⊎ (parts_of was ≢ parts_of e)
next_either seq None None a was e h is_b is_a = absurd cc
next_either seq (Some b) None a was e h is_b is_a = absurd cc
next_either seq None (Some w) a was e h is_b is_a = absurd cc
next_either seq (Some b) (Some w) a was e (inl (same, kept)) is_b is_a = inl (cc)
next_either seq (Some b) (Some w) a was e (inr (other, put)) is_b is_a =
    let new : stamped seq w ≡ e = cc in
    let old : b ≡ was = cc in
    inr (λ same. other (ap parts_of old ∙ same ∙ sym (ap parts_of new)))

differs_by_close : (seq : ℕ) (before worked after : EntryMap) → AreNextEntries seq before worked after
    → EachDiffers before after
differs_by_close seq before worked after next = record {
  either = λ k was e is_was is.
      next_either seq (get before k) (get worked k) (get after k) was e (next.each k) is_was is;
}

module _ (before after : EntryMap) (batch : Batch) (cs : List Change) (keyed_before : IsKeyed before)
    (keyed_after : IsKeyed after) (differ : EachDiffers before after) (all : IsBatch before after batch)
    (are : AreChangesOf before batch cs) where
  own_key : (m : EntryMap) → IsKeyed m → (k : LedgerKey) (e : LedgerEntry) → get m k ≡ Some e → key_of e ≡ k
  own_key m keyed k e is = subst (λ o. IfSome o (λ x. key_of x ≡ k)) is (keyed k)

  change_fits : (c : Change) → IsChangeOf before batch c → Fits before c
  change_fits (Created a) h = ((all.init a).0 h).1
  change_fits (Updated b a) h = (h.1, h.2)
  change_fits (Removed b) h = h.1

  each_fits : (ds : List Change) → ((c : Change) → Contains ds c → Contains cs c) → EachFits before ds
  each_fits [] within = tt
  each_fits (c ∷ ds) within = (
    change_fits c ((are.each c).0 (within c (contains_first c ds))),
    each_fits ds (λ d h. within d (contains_later c d ds h)),
  )

  result_after : (c : Change) → IsChangeOf before batch c → get after (key_in c) ≡ result_of c
  result_after (Created a) h = ((all.init a).0 h).0
  result_after (Updated b a) h = ap (get after) (sym h.1) ∙ ((all.live a).0 h.0).0
  result_after (Removed b) h = ((all.dead (key_of b)).0 h.0).1

  -- where no change is of the key nothing changed
  unchanged : (k : LedgerKey) → AllOther k cs → (b a : Option LedgerEntry) → get before k ≡ b → get after k ≡ a
      → b ≡ a
  unchanged k others None None is_b is_a = refl
  unchanged k others None (Some e) is_b is_a =
      let key : key_of e ≡ k = own_key after keyed_after k e is_a in
      let new : IsNew before after e = (ap (get after) key ∙ is_a, ap (get before) key ∙ is_b) in
      absurd (none_there k cs (Created e) others ((are.each (Created e)).1 ((all.init e).1 new)) key)
  unchanged k others (Some b) None is_b is_a =
      let key : key_of b ≡ k = own_key before keyed_before k b is_b in
      let there : get before (key_of b) ≡ Some b = ap (get before) key ∙ is_b in
      let gone : IsGone before after (key_of b) = ((λ none. cc), ap (get after) key ∙ is_a) in
      absurd (none_there k cs (Removed b) others
      ((are.each (Removed b)).1 ((all.dead (key_of b)).1 gone, there)) key)
  unchanged k others (Some b) (Some e) is_b is_a = elim (differ.either k b e is_b is_a) [
    | inl same ↦ ap Some same
    | inr other ↦
        let key : key_of b ≡ k = own_key before keyed_before k b is_b in
        let new_key : key_of e ≡ k = own_key after keyed_after k e is_a in
        let changes : IsChanged before after e =
        (ap (get after) new_key ∙ is_a, (b, ap (get before) new_key ∙ is_b, other)) in
        absurd (none_there k cs (Updated b e) others
        ((are.each (Updated b e)).1 ((all.live e).1 changes, new_key ∙ sym key, ap (get before) key ∙ is_b)) key)
  ]

  fits_all : EachFits before cs
  fits_all = each_fits cs (λ c h. h)

  same_at : (k : LedgerKey) → get (all_changed before cs) k ≡ get after k
  same_at k = elim (found_at before cs are.rise fits_all k) [
    | inl at ↦ at.is ∙ sym (result_after at.by ((are.each at.by).0 at.there)) ∙ ap (get after) at.key
    | inr left ↦ left.same ∙ unchanged k left.others (get before k) (get after k) refl refl
  ]

  pub lead : Applies before cs after
  lead = subst (λ n. Applies before cs n) (same_map keys_total keys_exact _ after same_at)
      (leads before cs are.rise fits_all)

pub changes_lead : ChangesLead
changes_lead seq before worked after batch cs h =
    lead before after batch cs h.keyed_before h.keyed_after (differs_by_close seq before worked after h.next)
    h.batch_is h.changes

pub changes_lead_back : ChangesLeadBack
changes_lead_back seq before worked after batch cs h =
    reverse_undoes before after cs (changes_lead seq before worked after batch cs h)
