-- The items of a file under their keys, in the order of the keys.
use Rattle.std.proofs.Common.{◌≡◌, ℕ, T, cond, List, [], ◌∷◌, Option, Some, None, map, refl, sym, ap}
use Rattle.std.proofs.Common.{subst}
use Rattle.std.proofs.Common.{◌∙◌, ◌<◌, length, drop, get_or, slice_get, arith, zero, suc}
use Rattle.std.specs.List.{AllByRecursion}
use Rattle.std.specs.Ordering.{is_lt, eq_by_cmp}
use Rattle.std.specs.FinMap.{entries, entries_sorted, get-entries}
use Rattle.std.specs.FinMap.Entries.{find, is_sorted, below_all}
use Rattle.ledger_types.specs.declared.key.LedgerKey.{LedgerKey}
use Rattle.ledger_types.specs.declared.bucket.BucketEntry.{BucketEntry}
use Rattle.ledger_types.specs.KeyOrder.{key_cmp}
use Rattle.std.specs.Option.{option_map}
use Rattle.bucket_core.specs.Bucket.{Change, Init, Live, Dead, Contents, IsUnderKey, change_at}
use Rattle.bucket_core.specs.File.{item_of, items_of, HasFile}
use Rattle.bucket_core.specs.Faults.{key_in}
use Rattle.bucket_core.specs.Find.{item_under, is_wanted}
use Rattle.bucket_core.specs.Index.{Row, IsRising, value_at, AreOffsets, row_at, rows, IsItemAt, AreItemsAt}
use Rattle.bucket_core.proofs.IndexOf.{row_len}
use Rattle.bucket_core.specs.Reading.{contents_of, IsFile}
use Rattle.bucket_core.proofs.Files.{items_of_file}
use Rattle.bucket_core.proofs.Walking.{item_of_change}
use Rattle.bucket_core.specs.Stored.{rows_of, under_if, stored_in}
use Rattle.bucket_core.proofs.Keyed.{each_found}
use Rattle.ledger_types.proofs.Booleans.{both_true, first_true, second_true}

-- ---- a row rises

abbrev seen : List (LedgerKey × Change) → Row
seen es = map (λ x. (x.0, item_of x)) es

seen_above : (k : LedgerKey) (es : List (LedgerKey × Change)) → T (below_all key_cmp k es)
    → T (below_all key_cmp k (seen es))
seen_above k [] h = tt
seen_above k (x ∷ xs) h =
    both_true (is_lt (key_cmp k x.0)) (below_all key_cmp k (seen xs)) (first_true _ _ h)
    (seen_above k xs (second_true _ _ h))

seen_sorted : (es : List (LedgerKey × Change)) → T (is_sorted key_cmp es) → IsRising (seen es)
seen_sorted [] h = tt
seen_sorted (x ∷ xs) h = both_true (below_all key_cmp x.0 (seen xs)) (is_sorted key_cmp (seen xs))
    (seen_above x.0 xs (first_true _ _ h)) (seen_sorted xs (second_true _ _ h))

key_of_item : (k : LedgerKey) (c : Change) → IsUnderKey k c → key_in (item_of (k, c)) ≡ Some k
key_of_item k (Init e) h = ap Some h
key_of_item k (Live e) h = ap Some h
key_of_item k Dead h = refl

rows_seen : (es : List (LedgerKey × Change)) → AllByRecursion (λ x. IsUnderKey x.0 x.1) es
    → rows_of (map item_of es) ≡ seen es
rows_seen [] h = refl
rows_seen (x ∷ xs) h =
    (λ i. under_if (key_of_item x.0 x.1 h.0 i) (item_of x) (rows_seen xs h.1 i))

pub file_rises : (file : Contents) → HasFile file → IsRising (rows_of (items_of file))
file_rises None h = tt
file_rises (Some filled) h =
    let es = entries filled.changes in
    let sorted = entries_sorted filled.changes in
    let own : (k : LedgerKey) (c : Change) → find key_cmp k es ≡ Some c → IsUnderKey k c =
    λ k c f. h.keyed k c (get-entries filled.changes k ∙ f) in
    subst IsRising (sym (rows_seen es (each_found IsUnderKey es sorted own))) (seen_sorted es sorted)

-- ---- the item under a key

first_under : (k : LedgerKey) (item : BucketEntry) (items : List BucketEntry) (o : Option LedgerKey)
    → value_at k (rows_of items) ≡ item_under k items
    → value_at k (under_if o item (rows_of items))
    ≡ cond (is_wanted k o) (Some item) (item_under k items)
first_under k item items None h = h
first_under k item items (Some m) h = ap (cond (eq_by_cmp key_cmp k m) (Some item)) h

-- what exists under a key in the row of items is the first item under it
pub value_is_under : (k : LedgerKey) (items : List BucketEntry) → value_at k (rows_of items) ≡ item_under k items
value_is_under k [] = refl
value_is_under k (item ∷ items) = first_under k item items (key_in item) (value_is_under k items)

-- ---- a file and its index

pub index_rises : (bytes offsets : List ℕ) → IsFile bytes → AreOffsets bytes offsets → IsRising (row_at bytes offsets)
index_rises bytes offsets h index =
    subst IsRising (sym (index.row ∙ ap rows_of (items_of_file bytes h))) (file_rises (contents_of bytes) h.has)

-- what exists under a key among the items of an index is what the file says of the key
-- where there are no offsets there are no items
pub no_rows : (bytes offsets : List ℕ) → length offsets ≡ 0 → row_at bytes offsets ≡ []
no_rows bytes [] is = refl
no_rows bytes (offset ∷ offsets) is = absurd (omega (arith, is))

pub index_tells : (bytes offsets : List ℕ) (k : LedgerKey) → IsFile bytes → AreOffsets bytes offsets
    → value_at k (row_at bytes offsets)
    ≡ option_map (λ change. item_of (k, change)) (change_at (contents_of bytes) k)
index_tells bytes offsets k h index =
    ap (value_at k) (index.row ∙ ap rows_of (items_of_file bytes h))
    ∙ value_is_under k (items_of (contents_of bytes))
    ∙ item_of_change k (contents_of bytes) h.has.keyed

pub index_rows : (bytes offsets : List ℕ) → IsFile bytes → AreOffsets bytes offsets
    → row_at bytes offsets ≡ rows (contents_of bytes)
index_rows bytes offsets h index = index.row ∙ ap rows_of (items_of_file bytes h)

pub rows_long : (bytes offsets : List ℕ) → IsFile bytes → AreOffsets bytes offsets
    → length offsets ≡ length (rows (contents_of bytes))
rows_long bytes offsets h index = sym (row_len bytes offsets) ∙ ap length (index_rows bytes offsets h index)

-- the item at a position
pub row_index : (file offsets : List ℕ) (i d : ℕ) → i < length offsets
    → slice_get (row_at file offsets) i ≡ Some (stored_in (drop (get_or offsets i d) file))
row_index file [] i d w = absurd (omega (arith, w))
row_index file (p ∷ ps) zero d w = refl
row_index file (p ∷ ps) (suc i) d w = row_index file ps i d (omega (arith, w))

exists_at : (file offsets : List ℕ) (i d : ℕ) → i < length offsets → AreItemsAt file offsets
    → IsItemAt file (get_or offsets i d)
exists_at file [] i d w h = absurd (omega (arith, w))
exists_at file (p ∷ ps) zero d w h = h.0
exists_at file (p ∷ ps) (suc i) d w h = exists_at file ps i d (omega (arith, w)) h.1

-- the row that slices of a file and of its offsets are
pub row_of_slices : (bytes offsets b p : List ℕ) (c : Contents) → IsFile bytes → AreOffsets bytes offsets → b ≡ bytes
    → p ≡ offsets → contents_of bytes ≡ c → row_at b p ≡ rows c
row_of_slices bytes offsets b p c h index same_b same_p same_c =
    ap (λ (t : List ℕ). row_at b t) same_p ∙ ap (λ (t : List ℕ). row_at t offsets) same_b
    ∙ index_rows bytes offsets h index ∙ ap rows same_c

pub slices_rise : (bytes offsets b p : List ℕ) → IsFile bytes → AreOffsets bytes offsets → b ≡ bytes → p ≡ offsets
    → IsRising (row_at b p)
slices_rise bytes offsets b p h index same_b same_p =
    subst IsRising (sym (row_of_slices bytes offsets b p (contents_of bytes) h index same_b same_p refl))
    (file_rises (contents_of bytes) h.has)

-- the item at a position, by slices of a file and of its offsets
pub record HasItemAt (p b : List ℕ) (c : Contents) (i d : ℕ) : Type 0 where
  pub within : i < length p
  pub exists : IsItemAt b (get_or p i d)
  pub is : slice_get (rows c) i ≡ Some (stored_in (drop (get_or p i d) b))

pub item_at_index : (bytes offsets b p : List ℕ) (c : Contents) (i d : ℕ) → IsFile bytes → AreOffsets bytes offsets
    → b ≡ bytes → p ≡ offsets → contents_of bytes ≡ c → i < length (rows c) → HasItemAt p b c i d
item_at_index bytes offsets b p c i d h index same_b same_p same_c w =
    let row = row_of_slices bytes offsets b p c h index same_b same_p same_c in
    let long : length (rows c) ≡ length p = sym (ap length row) ∙ row_len b p in
    let within : i < length p = omega (arith, w, long) in
    let exist : AreItemsAt b p =
    subst (AreItemsAt b) (sym same_p) (subst (λ (t : List ℕ). AreItemsAt t offsets) (sym same_b) index.exist) in
    record {
      within = within;
      exists = exists_at b p i d within exist;
      is = ap (λ (r : Row). slice_get r i) (sym row) ∙ row_index b p i d within;
    }
