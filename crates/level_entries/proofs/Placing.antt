-- The entries that the items of a row leave, one by one.
use Rattle.level_entries.proofs.Prelude as prelude
use prelude.{◌≡◌, ℕ, zero, suc, ◌+◌, ◌<◌, Bool, true, false, List, [], ◌∷◌, ◌++◌, Option, Some, None, map, refl, sym}
use prelude.{ap}
use prelude.{subst, ◌∙◌, arith, append-nil, length, take, get_or, is_some, take_more, AllByRecursion, from_entries, get}
use prelude.{drop}
use prelude.{LedgerKey, BucketEntry, LedgerEntry, EntryMap, with_key, item_type, IsUnderKey}
use prelude.{Contents, IsTableRow, IsNewestRow, stated, entry_in, prepended_to, entries_in}
use prelude.{key_cmp, key_of, Leaves, prepended_if, left_in, ArePlaced}
use Rattle.std.proofs.lemmas.List.Elements.{All-from_recursion}
use Rattle.std.specs.FinMap.{entries, values}
use Rattle.std.specs.List.{slice_get}
use Rattle.ledger_types.specs.declared.bucket.BucketEntry.TheVariants as bucket
use Rattle.bucket_items.specs.declared.item.BucketEntryType.{BucketEntryType}
use Rattle.bucket_items.specs.declared.item.BucketEntryType.TheVariants as mark
use Rattle.bucket_levels.specs.entry_map.EntryMap.{IsKeyed}
use Rattle.entry_map.specs.EntryMap.{put}
use Rattle.entry_map.specs.Indexes.{IsIndexOf, PositionMap}
use Rattle.entry_table.proofs.Stamped.{not_after, put_first, row_after_part}
use Rattle.entry_table.proofs.Tables.{row_made, map_made, entries_of, keyed_row}
use Rattle.std.proofs.lemmas.List.{take-append-drop}
use Rattle.level_entries.proofs.JudgedRows.{from_index, drop_past_end}
use Rattle.level_entries.specs.Placed.{IsIndexFrom}
use Rattle.level_entries.proofs.LeftEntries.{each_own, own_entry, entries_rise}

abbrev Row : Type 0
Row = List (LedgerKey × BucketEntry)

-- ---- whether an item leaves an entry

abbrev pub leaves_by : BucketEntryType → Bool
leaves_by mark.Meta = false
leaves_by mark.Live = true
leaves_by mark.Dead = false
leaves_by mark.Init = true

pub leaves_is : (item : BucketEntry) (t : BucketEntryType) → t ≡ item_type item → leaves_by t ≡ is_some (entry_in item)
leaves_is (bucket.Meta version) t is = ap leaves_by is
leaves_is (bucket.Live e) t is = ap leaves_by is
leaves_is (bucket.Dead k) t is = ap leaves_by is
leaves_is (bucket.Init e) t is = ap leaves_by is

pub none_pushed : (o : Option LedgerEntry) (x : LedgerKey × BucketEntry) (row : Row) → is_some o ≡ false
    → row ≡ row ++ prepended_if o x []
none_pushed None x row none = sym (append-nil row)
none_pushed (Some e) x row none = absurd (cc)

pub one_pushed : (o : Option LedgerEntry) (x : LedgerKey × BucketEntry) (row new : Row) → is_some o ≡ true
    → new ≡ row ++ x ∷ [] → new ≡ row ++ prepended_if o x []
one_pushed None x row new some is = absurd (cc)
one_pushed (Some e) x row new some is = is

left_more : (xs : Row) (x : LedgerKey × BucketEntry)
    → left_in (xs ++ x ∷ []) ≡ left_in xs ++ prepended_if (entry_in x.1) x []
left_more [] x = refl
left_more (y ∷ ys) x =
    ap (prepended_if (entry_in y.1) y) (left_more ys x)
    ∙ elim (entry_in y.1) as (λ o. prepended_if o y (left_in ys ++ prepended_if (entry_in x.1) x [])
    ≡ prepended_if o y (left_in ys) ++ prepended_if (entry_in x.1) x []) [ None ↦ refl | Some e ↦ refl ]

pub next_left : (row : Row) (i : ℕ) (x : LedgerKey × BucketEntry) → i < length row → x ≡ get_or row i x
    → left_in (take (i + 1) row) ≡ left_in (take i row) ++ prepended_if (entry_in x.1) x []
next_left row i x h is =
    ap left_in (take_more row i x h ∙ ap (λ y. take i row ++ y ∷ []) (sym is)) ∙ left_more (take i row) x

-- ---- all of them

same_left : (xs : Row) → entries_in (left_in xs) ≡ entries_in xs
same_left [] = refl
same_left (x ∷ xs) =
    elim (entry_in x.1) as (λ o. entry_in x.1 ≡ o
    → entries_in (prepended_if o x (left_in xs)) ≡ prepended_to o (entries_in xs)) [
      | None ↦ λ none. same_left xs
      | Some e ↦ λ some. ap (λ o. prepended_to o (entries_in (left_in xs))) some
          ∙ ap (λ es. e ∷ es) (same_left xs)
    ] refl

each_leaves : (xs : Row) → AllByRecursion (λ x. IsUnderKey x.0 (stated x.1)) xs → AllByRecursion Leaves (left_in xs)
each_leaves [] own = tt
each_leaves (x ∷ xs) own =
    elim (entry_in x.1) as (λ o. entry_in x.1 ≡ o → AllByRecursion Leaves (prepended_if o x (left_in xs))) [
      | None ↦ λ none. each_leaves xs own.1
      | Some e ↦ λ some.
          (record { entry = e; left = some; own = own_entry x.0 x.1 e own.0 some }, each_leaves xs own.1)
    ] refl

pub placed_of : (files : List Contents) (row : Row) (m : EntryMap) → IsNewestRow files row
    → m ≡ from_entries (map with_key (entries_in row)) → ArePlaced m (left_in row)
placed_of files row m n is = record {
  table = subst (λ (es : List LedgerEntry). IsTableRow (map with_key es)) (sym (same_left row))
      (row_made (entries_in row) (entries_rise files row n));
  is = is ∙ ap (λ (es : List LedgerEntry). from_entries (map with_key es)) (sym (same_left row));
  each = each_leaves row (each_own row n.rises n.own);
}

-- ---- by their indices

pub leaves_at : (row : Row) (i : ℕ) (x : LedgerKey × BucketEntry) → AllByRecursion Leaves row → i < length row
    → x ≡ get_or row i x → Leaves x
leaves_at row i x each lt is = subst Leaves (sym is) (All-from_recursion Leaves row each i x lt)

all_leave : (row : Row) → AllByRecursion Leaves row → length (entries_in row) ≡ length row
all_leave [] each = refl
all_leave (x ∷ xs) each =
    ap (λ o. length (prepended_to o (entries_in xs))) each.0.left ∙ ap suc (all_leave xs each.1)

pub entry_of : (row : Row) (i : ℕ) (x : LedgerKey × BucketEntry) (e : LedgerEntry) → AllByRecursion Leaves row
    → i < length row → x ≡ get_or row i x → entry_in x.1 ≡ Some e → slice_get (entries_in row) i ≡ Some e
entry_of [] i x e each lt is some = absurd (omega arith)
entry_of (y ∷ ys) zero x e each lt is some =
    ap (λ o. slice_get (prepended_to o (entries_in ys)) 0)
    (ap (λ (z : LedgerKey × BucketEntry). entry_in z.1) (sym is) ∙ some)
entry_of (y ∷ ys) (suc i) x e each lt is some =
    ap (λ o. slice_get (prepended_to o (entries_in ys)) (suc i)) each.0.left
    ∙ entry_of ys i x e each.1 (omega arith) is some

unkeyed : (es : List LedgerEntry) → map (λ (y : LedgerKey × LedgerEntry). y.1) (map with_key es) ≡ es
unkeyed [] = refl
unkeyed (e ∷ es) = ap (λ r. e ∷ r) (unkeyed es)

keyed_length : (es : List LedgerEntry) → length (map with_key es) ≡ length es
keyed_length [] = refl
keyed_length (e ∷ es) = ap suc (keyed_length es)

module _ (m : EntryMap) (row : Row) (h : ArePlaced m row) where
  listed : entries m ≡ map with_key (entries_in row)
  listed = entries_of (map with_key (entries_in row)) m h.table.rises
      (map_made (map with_key (entries_in row)) h.table.rises ∙ sym h.is)

  pub counted : length row ≡ length (entries m)
  counted = sym (ap length listed ∙ keyed_length (entries_in row) ∙ all_leave row h.each)

  pub value_of : (i : ℕ) → slice_get (values m) i ≡ slice_get (entries_in row) i
  value_of i =
      ap (λ (r : List (LedgerKey × LedgerEntry)). slice_get (map (λ y. y.1) r) i) listed
      ∙ ap (λ (es : List LedgerEntry). slice_get es i) (unkeyed (entries_in row))

  pub placed_keyed : IsKeyed m
  placed_keyed = keyed_row (map with_key (entries_in row)) m h.table
      (map_made (map with_key (entries_in row)) h.table.rises ∙ sym h.is)

-- ---- the offers among them

-- a row at one of its items
parted_at : (row : Row) (i next : ℕ) (x : LedgerKey × BucketEntry) → next ≡ i + 1 → i < length row
    → x ≡ get_or row i x → row ≡ take i row ++ x ∷ drop next row
parted_at row i next x after lt is =
    sym (take-append-drop i row)
    ∙ ap (λ (r : Row). take i row ++ r)
    (from_index row i x lt is ∙ ap (λ (n : ℕ). x ∷ drop n row) (sym after))

each_after : (es rest : Row) → AllByRecursion Leaves (es ++ rest) → AllByRecursion Leaves rest
each_after [] rest each = each
each_after (x ∷ es) rest each = each_after es rest each.1

-- the entries after some items are the end of the row
table_after : (es rest : Row) → AllByRecursion Leaves (es ++ rest) → IsTableRow (map with_key (entries_in (es ++ rest)))
    → IsTableRow (map with_key (entries_in rest))
table_after [] rest each h = h
table_after (x ∷ es) rest each h =
    table_after es rest each.1
    (row_after_part (with_key each.0.entry ∷ []) (map with_key (entries_in (es ++ rest)))
    (subst (λ (o : Option LedgerEntry). IsTableRow (map with_key (prepended_to o (entries_in (es ++ rest)))))
    each.0.left h))

module _ (m : EntryMap) (row earlier done : Row) (last : LedgerKey × BucketEntry) where
  each_last : ArePlaced m row → row ≡ earlier ++ last ∷ done → AllByRecursion Leaves (last ∷ done)
  each_last h all = each_after earlier (last ∷ done) (subst (AllByRecursion Leaves) all h.each)

  last_leaves : ArePlaced m row → row ≡ earlier ++ last ∷ done → Leaves last
  last_leaves h all = (each_last h all).0

  module _ (leaves : Leaves last) where
    abbrev kept : List (LedgerKey × LedgerEntry)
    kept = map with_key (entries_in done)

    table_last : ArePlaced m row → row ≡ earlier ++ last ∷ done → IsTableRow (with_key leaves.entry ∷ kept)
    table_last h all =
        subst (λ (o : Option LedgerEntry). IsTableRow (map with_key (prepended_to o (entries_in done)))) leaves.left
        (table_after earlier (last ∷ done) (subst (AllByRecursion Leaves) all h.each)
        (subst (λ (r : Row). IsTableRow (map with_key (entries_in r))) all h.table))

    not_later : ArePlaced m row → row ≡ earlier ++ last ∷ done
        → get {R = key_cmp} (from_entries kept) (key_of leaves.entry) ≡ None
    not_later h all = not_after (with_key leaves.entry) kept (table_last h all)

    put_before : (index : PositionMap) → ArePlaced m row → row ≡ earlier ++ last ∷ done
        → IsIndexOf (put (from_entries kept) leaves.entry) index
        → IsIndexOf (from_entries (map with_key (entries_in (last ∷ done)))) index
    put_before index h all is =
        subst
        (λ (o : Option LedgerEntry). IsIndexOf (from_entries (map with_key (prepended_to o (entries_in done)))) index)
        (sym leaves.left)
        (put_first (with_key leaves.entry) kept leaves.entry index (table_last h all) refl is)

-- ---- an index of the offers from an item on

-- what one item more does to it
abbrev IndexesMore : LedgerKey × BucketEntry → (old new : PositionMap) → Type 0
IndexesMore x old new = (n : EntryMap) (e : LedgerEntry) → entry_in x.1 ≡ Some e → IsIndexOf n old
    → get n (key_of e) ≡ None → IsIndexOf (put n e) new

module _ (m : EntryMap) (row : Row) (ahead next : ℕ) (x : LedgerKey × BucketEntry) (h : ArePlaced m row)
    (after : next ≡ ahead + 1) (lt : ahead < length row) (is : x ≡ get_or row ahead x) where
  parts : row ≡ take ahead row ++ x ∷ drop next row
  parts = parted_at row ahead next x after lt is

  pub item_leaves : Leaves x
  item_leaves = last_leaves m row (take ahead row) (drop next row) x h parts

  pub indexed_more : (old new : PositionMap) → IsIndexFrom row old next → IndexesMore x old new
      → IsIndexFrom row new ahead
  indexed_more old new before more =
      let earlier = take ahead row in
      let done = drop next row in
      let leaves = item_leaves in
      record {
        within = omega arith;
        index = subst (λ (r : Row). IsIndexOf (from_entries (map with_key (entries_in r))) new)
            (sym (from_index row ahead x lt is ∙ ap (λ (n : ℕ). x ∷ drop n row) (sym after)))
            (put_before m row earlier done x leaves new h parts
            (more (from_entries (map with_key (entries_in done))) leaves.entry leaves.left before.index
            (not_later m row earlier done x leaves h parts)));
      }

pub indexed_none : (row : Row) (index : PositionMap) → IsIndexOf (from_entries []) index
    → IsIndexFrom row index (length row)
indexed_none row index none = record {
  within = omega arith;
  index = subst (λ (r : Row). IsIndexOf (from_entries (map with_key (entries_in r))) index)
      (sym (drop_past_end row (length row) (omega arith))) none;
}

pub indexed_all : (m : EntryMap) (row : Row) (index : PositionMap) (from : ℕ) → ArePlaced m row → from ≡ 0
    → IsIndexFrom row index from → IsIndexOf m index
indexed_all m row index from h none all =
    subst (λ (n : EntryMap). IsIndexOf n index)
    (ap (λ (n : ℕ). from_entries (map with_key (entries_in (drop n row)))) none ∙ sym h.is) all.index
