-- The entries that the items of a row leave.
use Rattle.level_entries.proofs.Prelude as prelude
use prelude.{◌≡◌, Bool, true, false, cond, List, [], ◌∷◌, Option, Some, None, map, option_map, refl}
use prelude.{sym, ap, subst, ◌∙◌, All, option_and_then, Ordering, Less, AllByRecursion, is_eq}
use prelude.{eq_by_cmp, tied_itself, from_entries, get-from_entries, find, All-nil}
use prelude.{All-cons, LedgerKey, BucketEntry, key_cmp, keys_total, value_at, with_key, first, second, less, none_found}
use prelude.{Sorted, Above, Change, Contents, IsUnderKey, Pair, changes_of, files_of, entry_after, entry_by}
use prelude.{Represent, stated, entry_in, prepended_to, entries_in, newest, IsNewestRow}
use Rattle.ledger_types.specs.Keys.{key_of}
use Rattle.ledger_types.specs.declared.entry.LedgerEntry.{LedgerEntry}
use Rattle.ledger_types.specs.declared.bucket.BucketEntry.TheVariants as bucket
use Rattle.bucket_levels.specs.entry_map.KeyMaps.{AreRising}

-- ---- each under its own key

later : (x : LedgerKey × BucketEntry) (k : LedgerKey) (v : BucketEntry) (xs : List (LedgerKey × BucketEntry))
    → Above x.0 xs → find key_cmp k xs ≡ Some v → (b : Bool) → eq_by_cmp key_cmp k x.0 ≡ b
    → cond b (Some x.1) (find key_cmp k xs) ≡ Some v
later x k v xs h f true tied = absurd (cc (f, none_found k x.0 xs tied h))
later x k v xs h f false tied = f

pub each_own : (row : List (LedgerKey × BucketEntry)) → Sorted row
    → ((k : LedgerKey) (v : BucketEntry) → find key_cmp k row ≡ Some v → IsUnderKey k (stated v))
    → AllByRecursion (λ x. IsUnderKey x.0 (stated x.1)) row
each_own [] s h = tt
each_own (x ∷ xs) s h = (
  h x.0 x.1 (ap (λ (o : Ordering). cond (is_eq o) (Some x.1) (find key_cmp x.0 xs)) (tied_itself keys_total x.0)),
  each_own xs (second _ _ s)
      (λ k v f. h k v (later x k v xs (first _ _ s) f (eq_by_cmp key_cmp k x.0) refl)),
)

pub own_entry : (k : LedgerKey) (item : BucketEntry) (e : LedgerEntry) → IsUnderKey k (stated item)
    → entry_in item ≡ Some e → key_of e ≡ k
own_entry k (bucket.Meta version) e h is = absurd (cc)
own_entry k (bucket.Live f) e h is = let same : f ≡ e = cc in ap key_of (sym same) ∙ h
own_entry k (bucket.Dead g) e h is = absurd (cc)
own_entry k (bucket.Init f) e h is = let same : f ≡ e = cc in ap key_of (sym same) ∙ h

-- ---- in order

keys_above : (k : LedgerKey) (row : List (LedgerKey × BucketEntry)) → Above k row
    → AllByRecursion (λ x. IsUnderKey x.0 (stated x.1)) row
    → All (λ q. key_cmp k q ≡ Less) (map key_of (entries_in row))
keys_above k [] h own = All-nil (λ q. key_cmp k q ≡ Less)
keys_above k (x ∷ xs) h own =
    let rest = keys_above k xs (second _ _ h) own.1 in
    elim (entry_in x.1) as (λ o. entry_in x.1 ≡ o
    → All (λ q. key_cmp k q ≡ Less) (map key_of (prepended_to o (entries_in xs)))) [
      | None ↦ λ e. rest
      | Some e ↦ λ is. All-cons (λ q. key_cmp k q ≡ Less) (key_of e) (map key_of (entries_in xs))
          (ap (key_cmp k) (own_entry x.0 x.1 e own.0 is) ∙ less (key_cmp k x.0) (first _ _ h)) rest
    ] refl

rising_from : (row : List (LedgerKey × BucketEntry)) → Sorted row
    → AllByRecursion (λ x. IsUnderKey x.0 (stated x.1)) row → AreRising (map key_of (entries_in row))
rising_from [] s own = tt
rising_from (x ∷ xs) s own =
    let rest = rising_from xs (second _ _ s) own.1 in
    elim (entry_in x.1) as (λ o. entry_in x.1 ≡ o → AreRising (map key_of (prepended_to o (entries_in xs)))) [
      | None ↦ λ e. rest
      | Some e ↦ λ is. (
        subst (λ (k : LedgerKey). All (λ q. key_cmp k q ≡ Less) (map key_of (entries_in xs)))
            (sym (own_entry x.0 x.1 e own.0 is)) (keys_above x.0 xs (first _ _ s) own.1),
        rest,
      )
    ] refl

pub entries_rise : (files : List Contents) (row : List (LedgerKey × BucketEntry)) → IsNewestRow files row
    → AreRising (map key_of (entries_in row))
entries_rise files row n = rising_from row n.rises (each_own row n.rises n.own)

-- ---- key by key

find_prefix : (k at : LedgerKey) (item : BucketEntry) (o : Option LedgerEntry) (others : List LedgerEntry)
    (found : Option BucketEntry) (b : Bool) → eq_by_cmp key_cmp k at ≡ b → entry_in item ≡ o
    → ((e : LedgerEntry) → o ≡ Some e → key_of e ≡ at) → (b ≡ true → found ≡ None)
    → find key_cmp k (map with_key others) ≡ option_and_then entry_in found
    → find key_cmp k (map with_key (prepended_to o others)) ≡ option_and_then entry_in (cond b (Some item) found)
find_prefix k at item None others found true tied is own none rest =
    rest ∙ ap (option_and_then entry_in) (none refl) ∙ sym is
find_prefix k at item None others found false tied is own none rest = rest
find_prefix k at item (Some e) others found true tied is own none rest =
    ap (λ (q : LedgerKey). cond (eq_by_cmp key_cmp k q) (Some e) (find key_cmp k (map with_key others))) (own e refl)
    ∙ ap (λ (t : Bool). cond t (Some e) (find key_cmp k (map with_key others))) tied ∙ sym is
find_prefix k at item (Some e) others found false tied is own none rest =
    ap (λ (q : LedgerKey). cond (eq_by_cmp key_cmp k q) (Some e) (find key_cmp k (map with_key others))) (own e refl)
    ∙ ap (λ (t : Bool). cond t (Some e) (find key_cmp k (map with_key others))) tied ∙ rest

find-entries : (k : LedgerKey) (row : List (LedgerKey × BucketEntry)) → Sorted row
    → AllByRecursion (λ x. IsUnderKey x.0 (stated x.1)) row
    → find key_cmp k (map with_key (entries_in row)) ≡ option_and_then entry_in (value_at k row)
find-entries k [] s own = refl
find-entries k (x ∷ xs) s own =
    find_prefix k x.0 x.1 (entry_in x.1) (entries_in xs) (value_at k xs) (eq_by_cmp key_cmp k x.0) refl refl
    (λ e is. own_entry x.0 x.1 e own.0 is) (λ tied. none_found k x.0 xs tied (first _ _ s))
    (find-entries k xs (second _ _ s) own.1)

after_stated : (item : BucketEntry) → entry_after (stated item) ≡ entry_in item
after_stated (bucket.Meta version) = refl
after_stated (bucket.Live e) = refl
after_stated (bucket.Dead k) = refl
after_stated (bucket.Init e) = refl

by_newest : (xs : List Change) (o : Option BucketEntry) → option_map stated o ≡ newest xs
    → option_and_then entry_in o ≡ entry_by xs
by_newest [] None is = refl
by_newest [] (Some item) is = absurd (cc)
by_newest (c ∷ xs) None is = absurd (cc)
by_newest (c ∷ xs) (Some item) is =
    let same : stated item ≡ c = cc in sym (after_stated item) ∙ ap entry_after same

pub represents : (levels : List Pair) (row : List (LedgerKey × BucketEntry)) → IsNewestRow (files_of levels) row
    → Represent levels (from_entries (map with_key (entries_in row)))
represents levels row n = λ k.
    get-from_entries keys_total (map with_key (entries_in row)) k
    ∙ find-entries k row n.rises (each_own row n.rises n.own)
    ∙ by_newest (changes_of (files_of levels) k) (value_at k row) (n.says k)
