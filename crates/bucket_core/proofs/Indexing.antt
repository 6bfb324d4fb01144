-- Going over a file, with the offsets of its items.
use Rattle.std.proofs.Common.{◌≡◌, ℕ, ◌+◌, ◌<◌, ◌≤◌, List, [], ◌∷◌, ◌++◌, Option, Some, None, Ok, refl, sym, ap, subst}
use Rattle.std.proofs.Common.{◌∙◌, append_assoc, append-nil, arith, length, drop, drop-drop}
use Rattle.std.specs.Prelude.{IsSomeAnd}
use Rattle.std.specs.List.{AllByRecursion, flat_map}
use Rattle.std.proofs.lemmas.List.{length-append, length-drop}
use Rattle.std.proofs.lemmas.List.Elements.{recursion_from_All}
use Rattle.xdr_core.specs.Position.{Position, start_of}
use Rattle.xdr_core.specs.Leaves.{mark}
use Rattle.std.proofs.Math.Seq.{drop-append_seam}
use Rattle.xdr_entries.specs.Keys.{bucket_entry}
use Rattle.ledger_types.specs.declared.bucket.BucketEntry.{BucketEntry}
use Rattle.ledger_types.specs.declared.bucket.BucketEntry.TheVariants as bucket
use Rattle.bucket_items.specs.declared.item.BucketItem.{BucketItem}
use Rattle.bucket_items.specs.declared.item.BucketEntryType.{BucketEntryType}
use Rattle.bucket_items.specs.declared.item.BucketEntryType.TheVariants as kind
use Rattle.bucket_items.specs.Item.{item_type, Shows}
use Rattle.bucket_items.specs.MarkedItem.{record_of, IsEncodable, item_at, TakesItem}
use Rattle.bucket_items.proofs.RecordLaws.{after_record, record_is_read}
use Rattle.bucket_core.specs.Faults.{key_in}
use Rattle.bucket_core.specs.Cursor.{IsRow}
use Rattle.bucket_core.specs.Reading.{items_ahead, IsFile}
use Rattle.bucket_core.specs.Stored.{stored_in, rows_of, under_if}
use Rattle.bucket_core.specs.Index.{Row, AreItemsAt, row_at, AreOffsets, offsets_by}
use Rattle.bucket_core.proofs.StoredItems.{stored_by, stored_row}
use Rattle.bucket_core.proofs.Walking.{row_of_file}

-- ---- lists of offsets

pub row_more : (file xs ys : List ℕ) → row_at file (xs ++ ys) ≡ row_at file xs ++ row_at file ys
row_more file [] ys = refl
row_more file (x ∷ xs) ys = ap (λ (r : Row). stored_in (drop x file) ∷ r) (row_more file xs ys)

pub stand_more : (file xs ys : List ℕ) → AreItemsAt file xs → AreItemsAt file ys → AreItemsAt file (xs ++ ys)
stand_more file [] ys h g = g
stand_more file (x ∷ xs) ys h g = (h.0, stand_more file xs ys h.1 g)

pub stand_front : (file xs ys : List ℕ) → AreItemsAt file (xs ++ ys) → AreItemsAt file xs
stand_front file [] ys h = tt
stand_front file (x ∷ xs) ys h = (h.0, stand_front file xs ys h.1)

pub stand_back : (file xs ys : List ℕ) → AreItemsAt file (xs ++ ys) → AreItemsAt file ys
stand_back file [] ys h = h
stand_back file (x ∷ xs) ys h = stand_back file xs ys h.1

-- ---- going over the file

-- the items that are ahead go on to those of the entire file
pub record IsOnWay (file : List ℕ) (p : Position) (offsets : List ℕ) : Type 0 where
  pub items : List BucketEntry
  pub encoded : AllByRecursion IsEncodable items
  pub text : p.rest ≡ flat_map record_of items
  pub left : row_at file offsets ++ rows_of items ≡ rows_of (items_ahead (start_of file))
  pub exist : AreItemsAt file offsets
  pub here : drop p.at file ≡ p.rest
  pub within : p.at ≤ length file

pub starts : (file : List ℕ) (p : Position) (offsets : List ℕ) → IsFile file → p ≡ start_of file → offsets ≡ []
    → IsOnWay file p offsets
starts file p offsets h is none =
    let row : IsRow (start_of file) = row_of_file file h in
    subst (λ (q : Position). IsOnWay file q offsets) (sym is) (subst (IsOnWay file (start_of file)) (sym none) (record {
      items = items_ahead (start_of file);
      encoded = recursion_from_All IsEncodable (items_ahead (start_of file)) row.encoded;
      text = row.text;
      left = refl;
      exist = tt;
      here = refl;
      within = omega arith;
    }))

-- what exists ahead was shown
abbrev pub Turn : List BucketEntry → Position → Option BucketItem → Position → Type 0
Turn [] old shown new = shown ≡ None
Turn (item ∷ others) old shown new =
    IsSomeAnd shown (λ here. Shows here here.bytes.now item)
    × (new ≡ after_record old.at item (flat_map record_of others))

taken : (r : Option BucketItem) (new q : Position) (e : BucketEntry) → TakesItem r new e q
    → IsSomeAnd r (λ here. Shows here here.bytes.now e) × (new ≡ q)
taken None new q e h = absurd h
taken (Some item) new q e h = (h.1, h.0)

pub turn : (items : List BucketEntry) (p new : Position) (r : Option BucketItem) → AllByRecursion IsEncodable items
    → p.rest ≡ flat_map record_of items
    → ((e : BucketEntry) (q : Position) → item_at p ≡ Ok (e, q) → TakesItem r new e q)
    → (p.rest ≡ [] → (r ≡ None) × (new ≡ p)) → Turn items p r new
turn [] p new r s text item end = (end text).0
turn (x ∷ xs) p new r s text item end =
    let rest = flat_map record_of xs in
    let position : p ≡ record { at = p.at; rest = record_of x ++ rest } = λ i. record { at = p.at; rest = text i } in
    taken r new (after_record p.at x rest) x
    (item x (after_record p.at x rest) (ap item_at position ∙ record_is_read p.at x rest s.0))

record_long : (x : BucketEntry) (rest : List ℕ) → length rest < length (record_of x ++ rest)
unfolding mark
record_long x rest = omega (arith, length-append (bucket_entry.encoding x) rest)

split_rows : (x : BucketEntry) (xs : List BucketEntry) → rows_of (x ∷ []) ++ rows_of xs ≡ rows_of (x ∷ xs)
split_rows x xs = elim (key_in x) as (λ o. under_if o x [] ++ rows_of xs ≡ under_if o x (rows_of xs)) [
  | None ↦ refl
  | Some k ↦ refl
]

-- the item at a position, as the offsets report it
record Told (file : List ℕ) (at : ℕ) (x : BucketEntry) : Type 0 where
  row : row_at file (offsets_by (item_type x) at) ≡ rows_of (x ∷ [])
  exist : AreItemsAt file (offsets_by (item_type x) at)

told_keyed : (file : List ℕ) (at : ℕ) (x : BucketEntry) (q : Position) → at ≤ length file
    → item_at (start_of (drop at file)) ≡ Ok (x, q) → (item_type x ≡ kind.Meta → ⊥)
    → offsets_by (item_type x) at ≡ at ∷ [] → Told file at x
told_keyed file at x q within reads other one =
    record {
      row = ap (row_at file) one ∙ stored_row (drop at file) x q reads other;
      exist = subst (AreItemsAt file) (sym one)
          (record { within = within; stored = stored_by (drop at file) x q reads other }, tt);
    }

stated : (file : List ℕ) (at : ℕ) (x : BucketEntry) (q : Position) → at ≤ length file
    → item_at (start_of (drop at file)) ≡ Ok (x, q) → Told file at x
stated file at (bucket.Meta version) q within reads = record { row = refl; exist = tt }
stated file at (bucket.Live e) q within reads =
    told_keyed file at (bucket.Live e) q within reads (λ m. absurd (cc (m))) refl
stated file at (bucket.Dead k) q within reads =
    told_keyed file at (bucket.Dead k) q within reads (λ m. absurd (cc (m))) refl
stated file at (bucket.Init e) q within reads =
    told_keyed file at (bucket.Init e) q within reads (λ m. absurd (cc (m))) refl

-- an item was shown, and the others are ahead still
pub record IsNext (file : List ℕ) (old new : Position) (offsets : List ℕ) (type : BucketEntryType) : Type 0 where
  pub shorter : length new.rest < length old.rest
  pub goes : IsOnWay file new (offsets ++ offsets_by type old.at)

next_of : (items : List BucketEntry) (file : List ℕ) (p new : Position) (offsets : List ℕ) (item : BucketItem)
    → AllByRecursion IsEncodable items → p.rest ≡ flat_map record_of items
    → row_at file offsets ++ rows_of items ≡ rows_of (items_ahead (start_of file)) → AreItemsAt file offsets
    → drop p.at file ≡ p.rest → p.at ≤ length file → Turn items p (Some item) new
    → IsNext file p new offsets item.mark
next_of [] file p new offsets item s text left exist here within t = absurd (cc (t))
next_of (x ∷ xs) file p new offsets item s text left exist here within t =
    let rest : List ℕ = flat_map record_of xs in
    let entire : drop p.at file ≡ record_of x ++ rest = here ∙ text in
    let reads = ap (λ (f : List ℕ). item_at (start_of f)) entire ∙ record_is_read 0 x rest s.0 in
    let tells = stated file p.at x (after_record 0 x rest) within reads in
    let kind : item.mark ≡ item_type x = t.0.mark in
    let n : ℕ = length (record_of x) in
    let later : drop (p.at + n) file ≡ rest =
    sym (drop-drop n p.at file) ∙ ap (drop n) entire ∙ drop-append_seam (record_of x) rest in
    let all = length-append (record_of x) rest in
    let left_over = length-drop p.at file in
    record {
      shorter = omega (arith, ap (λ (q : Position). length q.rest) t.1, ap length text, record_long x rest);
      goes = subst (λ (q : Position). IsOnWay file q (offsets ++ offsets_by item.mark p.at)) (sym t.1)
          (subst (λ k. IsOnWay file (after_record p.at x rest) (offsets ++ offsets_by k p.at)) (sym kind) (record {
            items = xs;
            encoded = s.1;
            text = refl;
            left = ap (λ (r : Row). r ++ rows_of xs) (row_more file offsets (offsets_by (item_type x) p.at)
                ∙ ap (λ (r : Row). row_at file offsets ++ r) tells.row)
                ∙ append_assoc (row_at file offsets) (rows_of (x ∷ [])) (rows_of xs)
                ∙ ap (λ (r : Row). row_at file offsets ++ r) (split_rows x xs) ∙ left;
            exist = stand_more file offsets (offsets_by (item_type x) p.at) exist tells.exist;
            here = later;
            within = omega (arith, ap length entire, all, left_over);
          }));
    }

pub goes_on : (file : List ℕ) (p new : Position) (offsets : List ℕ) (item : BucketItem) → IsOnWay file p offsets
    → ((e : BucketEntry) (q : Position) → item_at p ≡ Ok (e, q) → TakesItem (Some item) new e q)
    → (p.rest ≡ [] → (Some item ≡ None) × (new ≡ p)) → IsNext file p new offsets item.mark
goes_on file p new offsets item g one end =
    next_of g.items file p new offsets item g.encoded g.text g.left g.exist g.here g.within
    (turn g.items p new (Some item) g.encoded g.text one end)

ended_of : (items : List BucketEntry) (file : List ℕ) (p new : Position) (offsets : List ℕ) → Turn items p None new
    → row_at file offsets ++ rows_of items ≡ rows_of (items_ahead (start_of file))
    → row_at file offsets ≡ rows_of (items_ahead (start_of file))
ended_of [] file p new offsets t left = sym (append-nil (row_at file offsets)) ∙ left
ended_of (x ∷ xs) file p new offsets t left = absurd t.0

pub ends : (file : List ℕ) (p new : Position) (offsets : List ℕ) (r : Option BucketItem) → IsOnWay file p offsets
    → ((e : BucketEntry) (q : Position) → item_at p ≡ Ok (e, q) → TakesItem r new e q)
    → (p.rest ≡ [] → (r ≡ None) × (new ≡ p)) → r ≡ None → AreOffsets file offsets
ends file p new offsets r g one end none = record {
  exist = g.exist;
  row = ended_of g.items file p new offsets (subst (λ (o : Option BucketItem). Turn g.items p o new) none
      (turn g.items p new r g.encoded g.text one end)) g.left;
}
