-- Whether levels are well marked, and that their entries are under their own keys.
use Rattle.existence_laws.proofs.Prelude as prelude
use prelude.{◌≡◌, inl, inr, List, [], ◌∷◌, ◌++◌, Option, Some, None, All, false, refl, sym, ap, ◌∙◌, IfSome, list_any}
use prelude.{eq_by_cmp, get, keys, All-head, All-tail, list_any-append, LedgerEntry, LedgerKey, key_cmp, key_of}
use prelude.{EntryMap, IsKeyed, Change, Init, Live, Dead, Contents, change_at, IsUnderKey, HasFile, Pair, pair_at}
use prelude.{prepended, entry_after, entry_by, changes_of, files_of, MayFollow, AreMarkedWell, Represent, AreWellMarked}
use prelude.{HasBoth, all_have_file, or_parts, same_Some}
use Rattle.existence_laws.proofs.Maps.{no_value}
use Rattle.existence_laws.proofs.Decided.{Decided, decided_as, both, all_keys}

-- ---- the marks of a key

may_follow : (change : Change) (older : List Change) → Decided (MayFollow change older)
may_follow (Init entry) [] = inl tt
may_follow (Init entry) (Dead ∷ older) = inl tt
may_follow (Init entry) (Init other ∷ older) = inr (λ h. h)
may_follow (Init entry) (Live other ∷ older) = inr (λ h. h)
may_follow (Live entry) [] = inl tt
may_follow (Live entry) (Dead ∷ older) = inr (λ h. h)
may_follow (Live entry) (Init other ∷ older) = inl tt
may_follow (Live entry) (Live other ∷ older) = inl tt
may_follow Dead [] = inl tt
may_follow Dead (Dead ∷ older) = inr (λ h. h)
may_follow Dead (Init other ∷ older) = inl tt
may_follow Dead (Live other ∷ older) = inl tt

marked_well : (changes : List Change) → Decided (AreMarkedWell changes)
unfolding AreMarkedWell
marked_well [] = inl tt
marked_well (change ∷ older) = both (may_follow change older) (marked_well older)

-- ---- those of all keys

abbrev keys_in : Contents → List LedgerKey
keys_in None = []
keys_in (Some filled) = keys filled.changes

abbrev keys_of : List Contents → List LedgerKey
keys_of [] = []
keys_of (contents ∷ older) = keys_in contents ++ keys_of older

silent : (contents : Contents) (k : LedgerKey) → list_any (eq_by_cmp key_cmp k) (keys_in contents) ≡ false
    → change_at contents k ≡ None
silent None k out = refl
silent (Some filled) k out = no_value filled.changes k out

nothing_said : (files : List Contents) (k : LedgerKey) → list_any (eq_by_cmp key_cmp k) (keys_of files) ≡ false
    → changes_of files k ≡ []
unfolding changes_of
nothing_said [] k out = refl
nothing_said (contents ∷ older) k out =
    let apart = or_parts (list_any (eq_by_cmp key_cmp k) (keys_in contents))
    (list_any (eq_by_cmp key_cmp k) (keys_of older))
    (sym (list_any-append (eq_by_cmp key_cmp k) (keys_in contents) (keys_of older)) ∙ out) in
    ap (λ (o : Option Change). prepended o (changes_of older k)) (silent contents k apart.0)
    ∙ nothing_said older k apart.1

none_well : (changes : List Change) → changes ≡ [] → AreMarkedWell changes
unfolding AreMarkedWell
none_well [] none = tt
none_well (change ∷ older) none = absurd (cc (none))

is_empty : (contents : Contents) → Decided (contents ≡ None)
is_empty None = inl refl
is_empty (Some filled) = inr (λ e. cc)

pub well_marked : (levels : List Pair) → Decided (AreWellMarked levels)
well_marked levels =
    decided_as (λ h. record { marks = h.0; deepest = h.1 }) (λ well. (well.marks, well.deepest))
    (both (all_keys (λ k. AreMarkedWell (changes_of (files_of levels) k)) (keys_of (files_of levels))
    (λ k out. none_well (changes_of (files_of levels) k) (nothing_said (files_of levels) k out))
    (λ k. marked_well (changes_of (files_of levels) k))) (is_empty (pair_at levels 10).snap))

-- ---- own keys

own_key : (k : LedgerKey) (change : Change) (e : LedgerEntry) → IsUnderKey k change → entry_after change ≡ Some e
    → key_of e ≡ k
own_key k (Init x) e own is = ap key_of (sym (same_Some x e is)) ∙ own
own_key k (Live x) e own is = ap key_of (sym (same_Some x e is)) ∙ own
own_key k Dead e own is = absurd (cc (is))

own_in : (contents : Contents) (k : LedgerKey) (e : LedgerEntry) (older : List Change) → HasFile contents
    → (entry_by older ≡ Some e → key_of e ≡ k) → (found : Option Change) → change_at contents k ≡ found
    → entry_by (prepended found older) ≡ Some e → key_of e ≡ k
own_in contents k e older has others None at is = others is
own_in contents k e older has others (Some change) at is = own_key k change e (has.keyed k change at) is

own_keys : (files : List Contents) (k : LedgerKey) (e : LedgerEntry) → All HasFile files
    → entry_by (changes_of files k) ≡ Some e → key_of e ≡ k
unfolding changes_of
own_keys [] k e have is = absurd (cc (is))
own_keys (contents ∷ older) k e have is =
    own_in contents k e (changes_of older k) (All-head HasFile contents older have)
    (λ there. own_keys older k e (All-tail HasFile contents older have) there) (change_at contents k) refl is

pub are_keyed : (levels : List Pair) (m : EntryMap) → All HasBoth levels → Represent levels m → IsKeyed m
are_keyed levels m have existing k = by_value (get m k) (sym (existing k))
  where
    by_value : (o : Option LedgerEntry) → entry_by (changes_of (files_of levels) k) ≡ o → IfSome o (λ e. key_of e ≡ k)
    by_value None is = tt
    by_value (Some e) is = own_keys (files_of levels) k e (all_have_file levels have) is
