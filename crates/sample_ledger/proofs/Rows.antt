-- The accounts' entries in the order of their ids are the changes of the first bucket.
use Rattle.sample_ledger.proofs.Prelude as prelude
use prelude.{◌≡◌, ℕ, zero, suc, ◌+◌, ◌-◌, ◌<◌, cond, T, ◌&&◌, List, [], ◌∷◌, ◌++◌, map, Some, All, length, take, refl}
use prelude.{sym, ap, subst, ◌∙◌, arith, add-one, append_assoc, append-nil, All-from_recursion, slice_get, option_map}
use prelude.{AllByRecursion, flat_map, range_with_len, insert, entries, entries_sorted, entries-insert}
use prelude.{get-from_entries, len-entries, len-empty, AccountId, LedgerEntry, account_cmp, key_cmp, changed, IsRising}
use prelude.{record_of, IsEncodable, account_id, ledger_entry, new_account, changes_of, first_changes, first_bucket}
use prelude.{as_change, AreEncodable}
use Rattle.std.specs.declared.cmp.Ordering.{Ordering}
use Rattle.std.specs.declared.cmp.Ordering.TheVariants.{Less, Equal, Greater}
use Rattle.std.specs.Ordering.{is_lt, is_eq, ordering_reverse}
use Rattle.std.specs.FinMap.{empty}
use Rattle.std.specs.FinMap.Entries.{find, put, by_order, is_sorted, below_all}
use Rattle.ledger_types.specs.declared.key.LedgerKey.{LedgerKey}
use Rattle.ledger_types.specs.declared.key.LedgerKey.TheVariants as key
use Rattle.ledger_types.specs.declared.bucket.BucketEntry.TheVariants as item
use Rattle.ledger_types.specs.Keys.{key_of}
use Rattle.ledger_types.proofs.KeyOrdering.{keys_total, keys_exact}
use Rattle.bucket_core.specs.Bucket.{Change, Init, IsUnderKey}
use Rattle.bucket_core.specs.File.{item_of, file_of, HasFile}
use Rattle.sample_ledger.proofs.Entries.{meta_encodable}

abbrev pub Row : Type 0
Row = List (AccountId × LedgerEntry)

-- ---- one entry more

key_cmp_turned : (a b : LedgerKey) (r : Ordering) → key_cmp a b ≡ r → key_cmp b a ≡ ordering_reverse r
key_cmp_turned a b r is = keys_total.antisymm b a ∙ ap ordering_reverse is

-- the row that an entry is put into, by how the first id compares to its own
abbrev changed_by : AccountId → LedgerEntry → AccountId × LedgerEntry → Row → Ordering → Row
changed_by id e x xs r = by_order r (x ∷ changed account_cmp id (Some e) xs) ((id, e) ∷ xs) ((id, e) ∷ x ∷ xs)

pub put_as_change : (id : AccountId) (e : LedgerEntry) (row : Row)
    → map as_change (changed account_cmp id (Some e) row) ≡ put key_cmp (key.Account id) (Init e) (map as_change row)
put_as_change id e [] = refl
put_as_change id e (x ∷ xs) =
    let k = key.Account id in
    let first = as_change x in
    let others = map as_change xs in
    elim (key_cmp k first.0) as (λ r. key_cmp k first.0 ≡ r → map as_change (changed_by id e x xs (key_cmp first.0 k))
    ≡ by_order r ((k, Init e) ∷ first ∷ others) ((first.0, Init e) ∷ others)
    (first ∷ put key_cmp k (Init e) others)) [
      | Less ↦ λ p. ap (λ r. map as_change (changed_by id e x xs r)) (key_cmp_turned k first.0 Less p)
      | Equal ↦ λ p. ap (λ r. map as_change (changed_by id e x xs r)) (key_cmp_turned k first.0 Equal p)
          ∙ ap (λ (q : LedgerKey). (q, Init e) ∷ others) (keys_exact k first.0 p)
      | Greater ↦ λ p. ap (λ r. map as_change (changed_by id e x xs r)) (key_cmp_turned k first.0 Greater p)
          ∙ ap (λ (es : List (LedgerKey × Change)). first ∷ es) (put_as_change id e xs)
    ] refl

below_alike : (id : AccountId) (row : Row)
    → below_all account_cmp id row ≡ below_all key_cmp (key.Account id) (map as_change row)
below_alike id [] = refl
below_alike id (x ∷ xs) = ap (λ b. is_lt (account_cmp id x.0) && b) (below_alike id xs)

sorted_alike : (row : Row) → is_sorted account_cmp row ≡ is_sorted key_cmp (map as_change row)
sorted_alike [] = refl
sorted_alike (x ∷ xs) = λ i. below_alike x.0 xs i && sorted_alike xs i

-- a row that has the changes of some accounts rises
pub changes_rise : (seed from n : ℕ) (row : Row) → map as_change row ≡ entries (changes_of seed from n)
    → IsRising account_cmp row
changes_rise seed from n row is =
    subst T (sym (sorted_alike row ∙ ap (is_sorted key_cmp) is)) (entries_sorted (changes_of seed from n))

pub encodable_more : (id : AccountId) (e : LedgerEntry) (row : Row) → IsEncodable (item.Init e) → AreEncodable row
    → AreEncodable (changed account_cmp id (Some e) row)
encodable_more id e [] one all = (one, tt)
encodable_more id e (x ∷ xs) one all =
    elim (account_cmp x.0 id) as (λ r. AreEncodable (changed_by id e x xs r)) [
      | Less ↦ (all.0, encodable_more id e xs one all.1)
      | Equal ↦ (one, all.1)
      | Greater ↦ (one, all)
    ]

-- ---- one account more

more_changes : (seed from n : ℕ) → changes_of seed from (n + 1)
    ≡ insert (changes_of seed (from + 1) n) (key_of (ledger_entry seed from)) (Init (ledger_entry seed from))
unfolding changes_of
more_changes seed from n = ap (changes_of seed from) (add-one n)

pub next_changes : (seed done : ℕ) → done < 9 → changes_of seed (9 - (done + 1)) (done + 1)
    ≡ insert (changes_of seed (9 - done) done) (key_of (ledger_entry seed (9 - 1 - done)))
    (Init (ledger_entry seed (9 - 1 - done)))
next_changes seed done below =
    let here : 9 - (done + 1) ≡ 9 - 1 - done = omega arith in
    let after : (9 - 1 - done) + 1 ≡ 9 - done = omega arith in
    let e = ledger_entry seed (9 - 1 - done) in
    ap (λ (from : ℕ). changes_of seed from (done + 1)) here ∙ more_changes seed (9 - 1 - done) done
    ∙ ap (λ (from : ℕ). insert (changes_of seed from done) (key_of e) (Init e)) after

pub next_row : (seed done : ℕ) (row next : Row) → done < 9
    → map as_change row ≡ entries (changes_of seed (9 - done) done)
    → next ≡ changed account_cmp (account_id seed (9 - 1 - done)) (Some (ledger_entry seed (9 - 1 - done))) row
    → map as_change next ≡ entries (changes_of seed (9 - (done + 1)) (done + 1))
next_row seed done row next below before is =
    let e = ledger_entry seed (9 - 1 - done) in
    ap (map as_change) is ∙ put_as_change (account_id seed (9 - 1 - done)) e row
    ∙ ap (put key_cmp (key_of e) (Init e)) before
    ∙ sym (entries-insert keys_total (changes_of seed (9 - done) done) (key_of e) (Init e))
    ∙ ap entries (sym (next_changes seed done below))

no_items : (es : List (LedgerKey × Change)) → length es ≡ 0 → es ≡ []
no_items [] h = refl
no_items (x ∷ xs) h = absurd (omega arith)

pub no_changes : (seed from : ℕ) → entries (changes_of seed from 0) ≡ []
unfolding changes_of
no_changes seed from = no_items _ (sym (len-entries empty) ∙ len-empty key_cmp Change)

-- ---- the file

abbrev pub init_record : LedgerEntry → List ℕ
init_record e = record_of (item.Init e)

one_item_more : (row : Row) (index : ℕ) (e : LedgerEntry) → option_map (λ x. x.1) (slice_get row index) ≡ Some e
    → flat_map (λ x. init_record x.1) (take (suc index) row)
    ≡ flat_map (λ x. init_record x.1) (take index row) ++ init_record e
one_item_more [] index e there = absurd (cc)
one_item_more (x ∷ xs) zero e there =
    let same : x.1 ≡ e = cc in
    append-nil (init_record x.1) ∙ ap init_record same
one_item_more (x ∷ xs) (suc index) e there =
    ap (λ (t : List ℕ). init_record x.1 ++ t) (one_item_more xs index e there)
    ∙ sym (append_assoc (init_record x.1) (flat_map (λ y. init_record y.1) (take index xs)) (init_record e))

pub item_after : (row : Row) (index : ℕ) (e : LedgerEntry) → option_map (λ x. x.1) (slice_get row index) ≡ Some e
    → flat_map (λ x. init_record x.1) (take (index + 1) row)
    ≡ flat_map (λ x. init_record x.1) (take index row) ++ init_record e
item_after row index e there =
    ap (λ (n : ℕ). flat_map (λ x. init_record x.1) (take n row)) (add-one index) ∙ one_item_more row index e there

items_alike : (row : Row) → flat_map record_of (map item_of (map as_change row)) ≡ flat_map (λ x. init_record x.1) row
items_alike [] = refl
items_alike (x ∷ xs) = ap (λ (t : List ℕ). init_record x.1 ++ t) (items_alike xs)

pub file_is : (seed : ℕ) (row : Row) → map as_change row ≡ entries (first_changes seed)
    → file_of (first_bucket seed) ≡ record_of (item.Meta 18) ++ flat_map (λ x. init_record x.1) row
file_is seed row is =
    ap (λ (es : List (LedgerKey × Change)). record_of (item.Meta 18) ++ flat_map record_of (map item_of es)) (sym is)
    ∙ ap (λ (t : List ℕ). record_of (item.Meta 18) ++ t) (items_alike row)

all_encodable : (row : Row) → AreEncodable row → AllByRecursion IsEncodable (map item_of (map as_change row))
all_encodable [] all = tt
all_encodable (x ∷ xs) all = (all.0, all_encodable xs all.1)

found_own : (seed : ℕ) (accounts : List ℕ) (k : LedgerKey) (c : Change)
    → find key_cmp k (map (new_account seed) accounts) ≡ Some c
    → IsUnderKey k c
found_own seed [] k c there = absurd (cc)
found_own seed (a ∷ others) k c there =
    let e = ledger_entry seed a in
    elim (key_cmp k (key_of e)) as (λ r. key_cmp k (key_of e) ≡ r
    → cond (is_eq r) (Some (Init e)) (find key_cmp k (map (new_account seed) others)) ≡ Some c
    → IsUnderKey k c) [
      | Less ↦ λ p h. found_own seed others k c h
      | Equal ↦ λ p h.
          let same : Init e ≡ c = cc in
          subst (IsUnderKey k) same (sym (keys_exact k (key_of e) p))
      | Greater ↦ λ p h. found_own seed others k c h
    ] refl there

pub has_file : (seed : ℕ) (row : Row) → map as_change row ≡ entries (first_changes seed) → AreEncodable row
    → HasFile (first_bucket seed)
unfolding changes_of
has_file seed row is all = record {
  keyed = λ k c there. found_own seed (range_with_len 0 9) k c
      (sym (get-from_entries keys_total (map (new_account seed) (range_with_len 0 9)) k) ∙ there);
  encoded = subst (All IsEncodable)
      (ap (λ (es : List (LedgerKey × Change)). item.Meta 18 ∷ map item_of es) is)
      (All-from_recursion IsEncodable (item.Meta 18 ∷ map item_of (map as_change row))
      (meta_encodable, all_encodable row all));
}
