-- The key of an item in the item's record.
use Rattle.bucket_items.proofs.Prelude.{◌≡◌, ℕ, ◌+◌, ◌≤◌, List, [], ◌++◌, length, drop, slice_index, Ok, refl, sym, ap}
use Rattle.bucket_items.proofs.Prelude.{subst, ◌∙◌, append_assoc, append-nil, arith, length-append, Position, start_of}
use Rattle.bucket_items.proofs.Prelude.{IsBytes, i32, mark, wide4, LedgerKey, BucketEntry, ledger_key, bucket_entry}
use Rattle.bucket_items.proofs.Prelude.{item_at, record_of, IsItemText, IsEncodable, BeginsWithKey, BeginsWithItemKey}
use Rattle.std.proofs.Math.Seq.{drop-append-add}
use Rattle.std.proofs.lemmas.List.{drop-append-le}
use Rattle.byteorder.specs.Endian.{big_bytes}
use Rattle.xdr_core.specs.Leaves.{mark_word}
use Rattle.ledger_types.specs.declared.bucket.BucketEntry.TheVariants as bucket
use Rattle.bucket_items.proofs.Holding.{HoldsKey, live_holds, init_holds, dead_holds}
use Rattle.bucket_items.proofs.RecordLaws.{record_is_taken}

abbrev type_byte : BucketEntry → ℕ
type_byte (bucket.Meta version) = 255
type_byte (bucket.Live entry) = 0
type_byte (bucket.Dead gone) = 1
type_byte (bucket.Init entry) = 2

type_is_there : (e : BucketEntry) (rest : List ℕ) → slice_index (record_of e ++ rest) 7 ≡ type_byte e
unfolding mark bucket_entry i32
type_is_there (bucket.Meta version) rest = refl
type_is_there (bucket.Live entry) rest = refl
type_is_there (bucket.Dead gone) rest = refl
type_is_there (bucket.Init entry) rest = refl

-- what comes before an item in its record
record_parts : (e : BucketEntry)
    → (head : List ℕ) × (length head ≡ 4) × (record_of e ≡ head ++ bucket_entry.encoding e)
unfolding mark
record_parts e =
    let word : ℕ = mark_word (length (bucket_entry.encoding e)) in (big_bytes 4 word, wide4.len word, refl)

-- the key after n bytes of an item is after four more of the item's record
held_in : (record_text text rest : List ℕ) (head : List ℕ) (n : ℕ) (k : LedgerKey)
    → record_text ≡ (head ++ text) ++ rest → length head ≡ 4 → HoldsKey text n k → HoldsKey record_text (4 + n) k
held_in record_text text rest head n k is four h = record {
  room = subst (λ (t : List ℕ). 4 + n ≤ length t) (sym is)
      (omega (arith, length-append (head ++ text) rest, length-append head text, four, h.room));
  tail = h.tail ++ rest;
  parts = ap (drop (4 + n)) (is ∙ append_assoc head text rest)
      ∙ ap (λ (m : ℕ). drop (m + n) (head ++ (text ++ rest))) (sym four)
      ∙ drop-append-add head (text ++ rest) n
      ∙ drop-append-le n text rest h.room
      ∙ ap (λ (t : List ℕ). t ++ rest) h.parts
      ∙ append_assoc (ledger_key.encoding k) h.tail rest;
  within = h.within;
  sized = h.sized;
}

dead_holds_key : (text : List ℕ) (k : LedgerKey) → IsItemText text (bucket.Dead k) → HoldsKey text 4 k
unfolding bucket_entry
dead_holds_key text k h =
    let d = dead_holds text k h in
    record {
      room = d.0;
      tail = [];
      parts = d.1 ∙ sym (append-nil (ledger_key.encoding k));
      within = h.within;
      sized = h.sized;
    }

-- where the key of an item is in its record
abbrev key_offset : BucketEntry → ℕ
key_offset (bucket.Meta version) = 12
key_offset (bucket.Live entry) = 12
key_offset (bucket.Dead gone) = 8
key_offset (bucket.Init entry) = 12

item_text : (e : BucketEntry) → IsEncodable e → IsItemText (bucket_entry.encoding e) e
item_text e h = record { encoded = refl; within = h.within; sized = h.sized }

from_offset : (text rest : List ℕ) (n : ℕ) (k : LedgerKey) → HoldsKey text n k → (n ≤ length text → rest ≡ drop n text)
    → BeginsWithKey rest k
from_offset text rest n k h after =
    record { tail = h.tail; parts = after h.room ∙ h.parts; within = h.within; sized = h.sized }

begins_with : (record_text rest text : List ℕ) (e : BucketEntry) → IsEncodable e → record_text ≡ record_of e ++ rest
    → (key_offset e ≤ length record_text → text ≡ drop (key_offset e) record_text) → BeginsWithItemKey text e
begins_with record_text rest text (bucket.Meta version) h is after = tt
begins_with record_text rest text (bucket.Live e) h is after =
    let p = record_parts (bucket.Live e) in
    let item : List ℕ = bucket_entry.encoding (bucket.Live e) in
    from_offset record_text text 12 _ (held_in record_text item rest p.0 8 _ (is ∙ ap (λ (t : List ℕ). t ++ rest) p.2)
    p.1 (live_holds item e (item_text (bucket.Live e) h))) after
begins_with record_text rest text (bucket.Dead k) h is after =
    let p = record_parts (bucket.Dead k) in
    let item : List ℕ = bucket_entry.encoding (bucket.Dead k) in
    from_offset record_text text 8 _ (held_in record_text item rest p.0 4 _ (is ∙ ap (λ (t : List ℕ). t ++ rest) p.2)
    p.1 (dead_holds_key item k (item_text (bucket.Dead k) h))) after
begins_with record_text rest text (bucket.Init e) h is after =
    let p = record_parts (bucket.Init e) in
    let item : List ℕ = bucket_entry.encoding (bucket.Init e) in
    from_offset record_text text 12 _ (held_in record_text item rest p.0 8 _ (is ∙ ap (λ (t : List ℕ). t ++ rest) p.2)
    p.1 (init_holds item e (item_text (bucket.Init e) h))) after

dead_offset : (e : BucketEntry) → type_byte e ≡ 1 → key_offset e ≡ 8
dead_offset (bucket.Meta version) is = absurd (omega (arith, is))
dead_offset (bucket.Live e) is = absurd (omega (arith, is))
dead_offset (bucket.Dead k) is = refl
dead_offset (bucket.Init e) is = absurd (omega (arith, is))

other_offset : (e : BucketEntry) → (type_byte e ≡ 1 → ⊥) → key_offset e ≡ 12
other_offset (bucket.Meta version) other = refl
other_offset (bucket.Live e) other = refl
other_offset (bucket.Dead k) other = absurd (other refl)
other_offset (bucket.Init e) other = refl

module _ (record_text text : List ℕ) (e : BucketEntry) (q : Position) (fits : IsBytes record_text)
    (reads : item_at (start_of record_text) ≡ Ok (e, q)) where
  type_byte_is : slice_index record_text 7 ≡ type_byte e
  type_byte_is =
      let t = record_is_taken (start_of record_text) q e fits reads in
      ap (λ (x : List ℕ). slice_index x 7) t.taken.parts ∙ type_is_there e q.rest

  at_offset : (n : ℕ) → key_offset e ≡ n → (n ≤ length record_text → text ≡ drop n record_text)
      → BeginsWithItemKey text e
  at_offset n is after =
      let t = record_is_taken (start_of record_text) q e fits reads in
      begins_with record_text q.rest text e t.encodable t.taken.parts
      (subst (λ (m : ℕ). m ≤ length record_text → text ≡ drop m record_text) (sym is) after)

  pub dead_from : slice_index record_text 7 ≡ 1 → (8 ≤ length record_text → text ≡ drop 8 record_text)
      → BeginsWithItemKey text e
  dead_from is after = at_offset 8 (dead_offset e (sym type_byte_is ∙ is)) after

  pub other_from : (slice_index record_text 7 ≡ 1 → ⊥) → (12 ≤ length record_text → text ≡ drop 12 record_text)
      → BeginsWithItemKey text e
  other_from other after = at_offset 12 (other_offset e (λ is. other (type_byte_is ∙ is))) after
