-- Pages of keys taken in the caches of several files.
use Rattle.std.proofs.Common.{◌≡◌, ◌≢◌, ◌+◌, ◌<◌, ◌≤◌, ℕ, zero, suc, Bool, true, false, List, [], ◌∷◌, ◌++◌, Option}
use Rattle.std.proofs.Common.{Some}
use Rattle.std.proofs.Common.{None, map, take, set, length, get_or, refl, sym, ap, subst, ◌∙◌, arith}
use Rattle.std.proofs.Common.{Result, Ok, Err}
use Rattle.std.proofs.lemmas.List.{take_more, length-take-le, set-get_or}
use Rattle.std.specs.Prelude.{if◌then◌else◌, OnErr}
use Rattle.ledger_types.specs.declared.key.LedgerKey.{LedgerKey}
use Rattle.bucket_core.specs.Bucket.{Change, Contents, change_at}
use Rattle.bucket_core.specs.Index.{rows, index_of}
use Rattle.bucket_levels.specs.Meaning.{changes_of, prepended}
use Rattle.page_cache.specs.Pages.{CacheAt, IsWarmed}
use Rattle.page_cache.specs.Caches.{contents_in, no_pages, cache_at, with_page_of, warmed_by, warmed, all_warmed}
use Rattle.page_cache.specs.Caches.{is_any}
use Rattle.page_cache.specs.Caches.{is_marked, marked_count}

-- ---- one key

-- a file has no mark of a key
pub record IsSilent (k : LedgerKey) (cache : CacheAt) : Type 0 where
  pub index : index_of k (rows cache.contents) ≡ None
  pub change : change_at cache.contents k ≡ None

abbrev pub AreSilent : LedgerKey → List CacheAt → Type 0
AreSilent k [] = Unit {0}
AreSilent k (cache ∷ older) = IsSilent k cache × AreSilent k older

silent_both : (k : LedgerKey) (xs : List CacheAt) (c : CacheAt) → AreSilent k xs → IsSilent k c
    → AreSilent k (xs ++ c ∷ [])
silent_both k [] c all one = (one, tt)
silent_both k (x ∷ xs) c all one = (all.0, silent_both k xs c all.1 one)

-- one file more
pub one_silent : (k : LedgerKey) (caches : List CacheAt) (i : ℕ) → i < length caches → AreSilent k (take i caches)
    → IsSilent k (cache_at caches i) → AreSilent k (take (i + 1) caches)
one_silent k caches i lt all one =
    subst (AreSilent k) (sym (take_more caches i (no_pages None) lt))
    (silent_both k (take i caches) (cache_at caches i) all one)

-- where no file has a mark, all stays
pub none_warmed : (k : LedgerKey) (caches : List CacheAt) → AreSilent k caches → warmed k caches ≡ caches
none_warmed k [] silent = refl
none_warmed k (c ∷ older) silent =
    ap (λ (o : Option ℕ). warmed_by o c older (warmed k older)) silent.0.index
    ∙ ap (λ (xs : List CacheAt). c ∷ xs) (none_warmed k older silent.1)

-- the page is taken in the first file with a mark
pub found_warmed : (k : LedgerKey) (caches : List CacheAt) (i index : ℕ) → i < length caches
    → AreSilent k (take i caches) → index_of k (rows (cache_at caches i).contents) ≡ Some index
    → warmed k caches ≡ set caches i (with_page_of index (cache_at caches i))
found_warmed k [] i index lt silent is = absurd (omega (arith, lt))
found_warmed k (c ∷ older) zero index lt silent is =
    ap (λ (o : Option ℕ). warmed_by o c older (warmed k older)) is
found_warmed k (c ∷ older) (suc i) index lt silent is =
    ap (λ (o : Option ℕ). warmed_by o c older (warmed k older)) silent.0.index
    ∙ ap (λ (xs : List CacheAt). c ∷ xs) (found_warmed k older i index (omega (arith, lt)) silent.1 is)

pub none_marked : (k : LedgerKey) (caches : List CacheAt) → AreSilent k caches → changes_of (contents_in caches) k ≡ []
unfolding changes_of
none_marked k [] silent = refl
none_marked k (c ∷ older) silent =
    ap (λ (o : Option Change). prepended o (changes_of (contents_in older) k)) silent.0.change
    ∙ none_marked k older silent.1

any_first : (o : Option Change) (older : List Change) → o ≢ None → is_any (prepended o older) ≡ true
any_first None older some = absurd (some refl)
any_first (Some change) older some = refl

any_later : (o : Option Change) (older : List Change) → is_any older ≡ true → is_any (prepended o older) ≡ true
any_later None older any = any
any_later (Some change) older any = refl

pub found_marked : (k : LedgerKey) (caches : List CacheAt) (i : ℕ) → i < length caches
    → change_at (cache_at caches i).contents k ≢ None → is_marked (contents_in caches) k ≡ true
unfolding changes_of
found_marked k [] i lt some = absurd (omega (arith, lt))
found_marked k (c ∷ older) zero lt some =
    any_first (change_at c.contents k) (changes_of (contents_in older) k) some
found_marked k (c ∷ older) (suc i) lt some =
    any_later (change_at c.contents k) (changes_of (contents_in older) k)
    (found_marked k older i (omega (arith, lt)) some)

-- ---- a file of several

-- whatever stands in for a file that isn't there
any_default : (caches : List CacheAt) (i : ℕ) (c d : CacheAt) → i < length caches
    → get_or caches i c ≡ get_or caches i d
any_default [] i c d lt = absurd (omega (arith, lt))
any_default (x ∷ caches) zero c d lt = refl
any_default (x ∷ caches) (suc i) c d lt = any_default caches i c d (omega (arith, lt))

is_at : (caches now : List CacheAt) (i : ℕ) (d : CacheAt) → now ≡ caches → i < length caches
    → get_or now i d ≡ cache_at caches i
is_at caches now i d same lt =
    ap (λ (xs : List CacheAt). get_or xs i d) same ∙ any_default caches i d (no_pages None) lt

pub same_set : (caches : List CacheAt) (i : ℕ) (d new : CacheAt) → new ≡ get_or caches i d → set caches i new ≡ caches
same_set caches i d new same = ap (λ x. set caches i x) same ∙ set-get_or caches i d

pub on_err : {A E : Type 0} (r : Result A E) (P : Type 0) → P → OnErr r P
on_err (Ok x) P p = tt
on_err (Err e) P p = p

pub silent_at : (k : LedgerKey) (caches now : List CacheAt) (i : ℕ) (d : CacheAt) → now ≡ caches → i < length caches
    → IsSilent k (get_or now i d) → IsSilent k (cache_at caches i)
silent_at k caches now i d same lt silent = subst (IsSilent k) (is_at caches now i d same lt) silent

pub warmed_at : (k : LedgerKey) (caches now : List CacheAt) (i : ℕ) (d new : CacheAt) → now ≡ caches
    → i < length caches → AreSilent k (take i caches) → IsWarmed k (get_or now i d) (Ok true) new
    → set now i new ≡ warmed k caches
warmed_at k caches now i d new same lt silent w =
    let index = w.0 in
    let first = w.2 in
    let here = is_at caches now i d same lt in
    let taken : new ≡ with_page_of index (get_or now i d) =
    λ t. record { contents = first.contents t; numbers = first.numbers t } in
    ap (λ (xs : List CacheAt). set xs i new) same
    ∙ ap (λ x. set caches i x) (taken ∙ ap (with_page_of index) here)
    ∙ sym (found_warmed k caches i index lt silent
    (subst (λ (x : CacheAt). index_of k (rows x.contents) ≡ Some index) here w.1))

pub marked_at : (k : LedgerKey) (caches now : List CacheAt) (i : ℕ) (d : CacheAt) → now ≡ caches → i < length caches
    → change_at (get_or now i d).contents k ≢ None → true ≡ is_marked (contents_in caches) k
marked_at k caches now i d same lt some =
    sym (found_marked k caches i lt
    (subst (λ (x : CacheAt). change_at x.contents k ≢ None) (is_at caches now i d same lt) some))

pub not_marked : (k : LedgerKey) (caches : List CacheAt) → AreSilent k caches
    → is_marked (contents_in caches) k ≡ false
not_marked k caches silent = ap is_any (none_marked k caches silent)

-- ---- all keys

kept_by : (o : Option ℕ) (c : CacheAt) (older warm : List CacheAt) → contents_in warm ≡ contents_in older
    → contents_in (warmed_by o c older warm) ≡ contents_in (c ∷ older)
kept_by None c older warm same = ap (λ (xs : List Contents). c.contents ∷ xs) same
kept_by (Some index) c older warm same = refl

-- the caches stay those of the same files
files_kept : (k : LedgerKey) (caches : List CacheAt) → contents_in (warmed k caches) ≡ contents_in caches
files_kept k [] = refl
files_kept k (c ∷ older) =
    kept_by (index_of k (rows c.contents)) c older (warmed k older) (files_kept k older)

pub all_files_kept : (keys : List LedgerKey) (caches : List CacheAt)
    → contents_in (all_warmed keys caches) ≡ contents_in caches
all_files_kept [] caches = refl
all_files_kept (k ∷ keys) caches = all_files_kept keys (warmed k caches) ∙ files_kept k caches

warmed_last : (keys : List LedgerKey) (k : LedgerKey) (caches : List CacheAt)
    → all_warmed (keys ++ k ∷ []) caches ≡ warmed k (all_warmed keys caches)
warmed_last [] k caches = refl
warmed_last (x ∷ keys) k caches = warmed_last keys k (warmed x caches)

counted_last : (files : List Contents) (keys : List LedgerKey) (k : LedgerKey)
    → marked_count files (keys ++ k ∷ []) ≡ marked_count files keys + (if is_marked files k then 1 else 0)
counted_last files [] k = omega arith
counted_last files (x ∷ keys) k = let later = counted_last files keys k in omega (arith, later)

one_at_most : (b : Bool) → (if b then 1 else 0) ≤ 1
one_at_most true = omega arith
one_at_most false = omega arith

counted_most : (files : List Contents) (keys : List LedgerKey) → marked_count files keys ≤ length keys
counted_most files [] = omega arith
counted_most files (k ∷ keys) = omega (arith, one_at_most (is_marked files k), counted_most files keys)

-- ---- the loop over keys

pub first_warmed : (keys : List LedgerKey) (caches : List CacheAt) → caches ≡ all_warmed (take 0 keys) caches
first_warmed keys caches = refl

pub one_warmed : (keys : List LedgerKey) (i : ℕ) (k : LedgerKey) (old now next : List CacheAt) → i < length keys
    → k ≡ get_or keys i k → now ≡ all_warmed (take i keys) old → next ≡ warmed k now
    → next ≡ all_warmed (take (i + 1) keys) old
one_warmed keys i k old now next lt is so_far more =
    more ∙ ap (warmed k) so_far ∙ sym (warmed_last (take i keys) k old)
    ∙ ap (λ q. all_warmed (take i keys ++ q ∷ []) old) is
    ∙ ap (λ (ks : List LedgerKey). all_warmed ks old) (sym (take_more keys i k lt))

counted_by : (files : List Contents) (keys : List LedgerKey) (i : ℕ) (k : LedgerKey) (count : ℕ) (b : Bool)
    → i < length keys → k ≡ get_or keys i k → count ≡ marked_count files (take i keys) → is_marked files k ≡ b
    → count + (if b then 1 else 0) ≡ marked_count files (take (i + 1) keys)
counted_by files keys i k count b lt is so_far marks =
    ap (λ n. n + (if b then 1 else 0)) so_far
    ∙ ap (λ x. marked_count files (take i keys) + (if x then 1 else 0)) (sym marks)
    ∙ sym (counted_last files (take i keys) k)
    ∙ ap (λ q. marked_count files (take i keys ++ q ∷ [])) is
    ∙ ap (marked_count files) (sym (take_more keys i k lt))

pub one_counted : (files : List Contents) (keys : List LedgerKey) (i : ℕ) (k : LedgerKey) (count : ℕ)
    → i < length keys → k ≡ get_or keys i k → count ≡ marked_count files (take i keys) → is_marked files k ≡ true
    → count + 1 ≡ marked_count files (take (i + 1) keys)
one_counted files keys i k count lt is so_far marks = counted_by files keys i k count true lt is so_far marks

pub one_uncounted : (files : List Contents) (keys : List LedgerKey) (i : ℕ) (k : LedgerKey) (count : ℕ)
    → i < length keys → k ≡ get_or keys i k → count ≡ marked_count files (take i keys) → is_marked files k ≡ false
    → count ≡ marked_count files (take (i + 1) keys)
one_uncounted files keys i k count lt is so_far marks =
    (let none : count ≡ count + 0 = omega arith in none) ∙ counted_by files keys i k count false lt is so_far marks

-- no more than the keys
pub counted_below : (files : List Contents) (keys : List LedgerKey) (i count : ℕ)
    → count ≡ marked_count files (take i keys) → i < length keys → count ≤ i
counted_below files keys i count is lt =
    let most = counted_most files (take i keys) in
    let len = length-take-le i keys (omega (arith, lt)) in omega (arith, is, most, len)

-- what caches without pages are of
pub none_taken_of : (files : List Contents) → contents_in (map no_pages files) ≡ files
none_taken_of [] = refl
none_taken_of (c ∷ files) = ap (λ (xs : List Contents). c ∷ xs) (none_taken_of files)
