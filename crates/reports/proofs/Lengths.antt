-- How long the encodings of a state's entries are: no longer than the files of its levels.
use Rattle.reports.proofs.Prelude.{◌≡◌, ℕ, ◌+◌, ◌≤◌, Bool, true, false, cond, List, [], ◌∷◌, ◌++◌, length, map, Option}
use Rattle.reports.proofs.Prelude.{Some}
use Rattle.reports.proofs.Prelude.{None, refl, sym, ap, subst, ◌∙◌, arith, length-append, ClosingState, mark, mark_word}
use Rattle.reports.proofs.Prelude.{wide4, big_bytes}
use Rattle.std.specs.List.{flat_map}
use Rattle.std.specs.FinMap.{entries, find, get, get-entries}
use Rattle.std.specs.Prelude.{pos}
use Rattle.std.specs.Ordering.{eq_by_cmp}
use Rattle.std.proofs.lemmas.List.Sums.{sum_by-cons}
use Rattle.xdr_core.specs.Leaves.{i32}
use Rattle.ledger_types.specs.KeyOrder.{key_cmp}
use Rattle.ledger_types.specs.declared.entry.LedgerEntry.{LedgerEntry}
use Rattle.ledger_types.specs.declared.key.LedgerKey.{LedgerKey}
use Rattle.ledger_types.specs.declared.bucket.BucketEntry.{BucketEntry}
use Rattle.ledger_types.specs.declared.bucket.BucketEntry.TheVariants as bucket
use Rattle.ledger_close.specs.bucket_levels.bucket_core.Bucket.{Change, Changes, Contents, Dead, Init, Live, change_at}
use Rattle.ledger_close.specs.bucket_levels.bucket_core.File.{file_of, item_of}
use Rattle.ledger_close.specs.bucket_levels.bucket_items.MarkedItem.{max_item_len, record_of}
use Rattle.run_outcome.specs.close_rules.xdr_entries.Entries.{ledger_entry}
use Rattle.run_outcome.specs.close_rules.xdr_entries.Keys.{bucket_entry}
use Rattle.ledger_close.specs.bucket_levels.Meaning.{Represent, changes_of, entry_after, entry_by, files_of, prepended}
use Rattle.ledger_close.specs.bucket_levels.Pairs.{Pair}
use Rattle.ledger_close.specs.bucket_levels.Size.{file_total, pair_size}

-- the length of an entry's encoding
abbrev len : LedgerEntry → ℕ
len e = length (ledger_entry.encoding e)

-- ---- a file

after : (x y : List ℕ) → length y ≤ length (x ++ y)
after x y = omega (arith, length-append x y)

before : (x y : List ℕ) → length x ≤ length (x ++ y)
before x y = omega (arith, length-append x y)

both : (n : ℕ) (x y : List ℕ) → n ≤ length y → n ≤ length (x ++ y)
both n x y le = omega (arith, le, length-append x y)

-- an entry in the item of what became of it
in_item : (k : LedgerKey) (c : Change) (e : LedgerEntry) → entry_after c ≡ Some e
    → len e ≤ length (record_of (item_of (k, c)))
unfolding mark bucket_entry
in_item k (Init x) e is =
    let same : x ≡ e = cc in
    subst (λ (y : LedgerEntry). len y ≤ length (record_of (bucket.Init x))) same
    (both (len x) (big_bytes 4 (mark_word (length (bucket_entry.encoding (bucket.Init x)))))
    (bucket_entry.encoding (bucket.Init x)) (after (i32.encoding (pos 2)) (ledger_entry.encoding x)))
in_item k (Live x) e is =
    let same : x ≡ e = cc in
    subst (λ (y : LedgerEntry). len y ≤ length (record_of (bucket.Live x))) same
    (both (len x) (big_bytes 4 (mark_word (length (bucket_entry.encoding (bucket.Live x)))))
    (bucket_entry.encoding (bucket.Live x)) (after (i32.encoding (pos 0)) (ledger_entry.encoding x)))
in_item k Dead e is = absurd cc

abbrev rows : List (LedgerKey × Change) → List ℕ
rows es = flat_map record_of (map item_of es)

-- the first of two that is there
first_or : (b : Bool) (c d : Change) (o : Option Change) (P : Change → Type 0) → cond b (Some c) o ≡ Some d → P c
    → (o ≡ Some d → P d) → P d
first_or true c d o P e h f = let same : c ≡ d = cc in subst P same h
first_or false c d o P e h f = f e

abbrev IsIn : LedgerEntry → List ℕ → Change → Type 0
IsIn e text c = entry_after c ≡ Some e → len e ≤ length text

in_rows : (k : LedgerKey) (es : List (LedgerKey × Change)) (c : Change) (e : LedgerEntry) → find key_cmp k es ≡ Some c
    → entry_after c ≡ Some e → len e ≤ length (rows es)
in_rows k [] c e found is = absurd cc
in_rows k (x ∷ es) c e found is =
    first_or (eq_by_cmp key_cmp k x.0) x.1 c (find key_cmp k es) (IsIn e (rows (x ∷ es))) found
    (λ here. let le = in_item x.0 x.1 e here in
    omega (arith, le, length-append (record_of (item_of x)) (rows es)))
    (λ later there. both (len e) (record_of (item_of x)) (rows es) (in_rows k es c e later there))
    is

in_file : (k : LedgerKey) (contents : Contents) (c : Change) (e : LedgerEntry) → change_at contents k ≡ Some c
    → entry_after c ≡ Some e → len e ≤ length (file_of contents)
in_file k None c e found is = absurd cc
in_file k (Some filled) c e found is =
    both (len e) (record_of (bucket.Meta filled.version)) (rows (entries filled.changes))
    (in_rows k (entries filled.changes) c e (sym (get-entries filled.changes k) ∙ found) is)

-- ---- files

entry_or : (o : Option Change) (older : List Change) (e : LedgerEntry) (P : Type 0)
    → entry_by (prepended o older) ≡ Some e → ((c : Change) → o ≡ Some c → entry_after c ≡ Some e → P)
    → (entry_by older ≡ Some e → P) → P
entry_or None older e P is here later = later is
entry_or (Some c) older e P is here later = here c refl is

-- an entry of the newest file that says something of a key
in_files : (k : LedgerKey) (curr snap : Contents) (others : List Contents) (e : LedgerEntry) (rest : ℕ)
    → entry_by (changes_of (curr ∷ snap ∷ others) k) ≡ Some e
    → (entry_by (changes_of others k) ≡ Some e → len e ≤ rest)
    → len e ≤ length (file_of curr) + length (file_of snap) + rest
unfolding changes_of
in_files k curr snap others e rest is later =
    entry_or (change_at curr k) (prepended (change_at snap k) (changes_of others k)) e
    (len e ≤ length (file_of curr) + length (file_of snap) + rest) is
    (λ c found there. let le = in_file k curr c e found there in omega (arith, le))
    (λ not_in_curr. entry_or (change_at snap k) (changes_of others k) e
    (len e ≤ length (file_of curr) + length (file_of snap) + rest) not_in_curr
    (λ c found there. let le = in_file k snap c e found there in omega (arith, le))
    (λ not_in_snap. let le = later not_in_snap in omega (arith, le)))

no_entry : (k : LedgerKey) (e : LedgerEntry) (P : Type 0) → entry_by (changes_of [] k) ≡ Some e → P
unfolding changes_of
no_entry k e P is = absurd cc

in_levels : (k : LedgerKey) (pairs : List Pair) (e : LedgerEntry)
    → entry_by (changes_of (files_of pairs) k) ≡ Some e → len e ≤ file_total pairs
unfolding file_total
in_levels k [] e is = no_entry k e (len e ≤ file_total []) is
in_levels k (pair ∷ pairs) e is =
    let le = in_files k pair.curr pair.snap (files_of pairs) e (file_total pairs) is (λ h. in_levels k pairs e h) in
    omega (arith, le, sum_by-cons pair_size pair pairs)

-- an entry is no longer than the files of the levels that represent it
pub entry_len : (s : ClosingState) → Represent s.levels s.entries → (k : LedgerKey) (e : LedgerEntry)
    → get s.entries k ≡ Some e → length (ledger_entry.encoding e) ≤ file_total s.levels
entry_len s represent k e is = in_levels k s.levels e (sym (represent k) ∙ is)
