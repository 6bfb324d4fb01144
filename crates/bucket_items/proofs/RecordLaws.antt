-- A record of an item reads as the item, and what reads as one is its record.
use Rattle.bucket_items.proofs.Prelude.{◌≡◌, ℕ, ◌+◌, ◌<◌, ◌≤◌, List, [], ◌++◌, length, Ok, refl, sym, ap, subst, ◌∙◌}
use Rattle.bucket_items.proofs.Prelude.{arith, append-nil, Result, XdrFault, Position, Reading, ◌>>=◌, IsBytes, Takes}
use Rattle.bucket_items.proofs.Prelude.{mark, mark_lawful, mark_is_read, marked_leaves, BucketEntry, bucket_entry}
use Rattle.bucket_items.proofs.Prelude.{bucket_entry_laws, ended, entire_at, max_item_len, record_of, IsEncodable}
use Rattle.bucket_items.proofs.Prelude.{after_mark, item_in, item_at, IsItemText}
use Rattle.bucket_items.proofs.Marking.{entire_is_text, item_says}

-- the offset after a record
abbrev pub after_record : ℕ → BucketEntry → List ℕ → Position
after_record at e rest = record { at = at + length (record_of e); rest = rest }

entire_is_read : (at : ℕ) (e : BucketEntry) → IsEncodable e
    → entire_at (record { at = at; rest = bucket_entry.encoding e }) ≡ Ok e
entire_is_read at e h =
    let text : List ℕ = bucket_entry.encoding e in
    let all : text ++ [] ≡ text = append-nil text in
    ap (λ (t : List ℕ). entire_at (record { at = at; rest = t })) (sym all)
    ∙ ap (λ (r : Reading XdrFault BucketEntry). r >>= ended) (bucket_entry_laws.lawful.again at e [] h.within h.sized)

-- a record is read, whatever follows
pub record_is_read : (at : ℕ) (e : BucketEntry) (rest : List ℕ) → IsEncodable e
    → item_at (record { at = at; rest = record_of e ++ rest }) ≡ Ok (e, after_record at e rest)
record_is_read at e rest h =
    let p : Position = record { at = at; rest = record_of e ++ rest } in
    ap (λ (r : Reading XdrFault (List ℕ)). r >>= item_in p)
    (mark_is_read max_item_len at (bucket_entry.encoding e) rest (omega arith) h.short)
    ∙ ap (λ (r : Result BucketEntry XdrFault). r >>= λ x. Ok (x, after_record at e rest)) (entire_is_read (at + 4) e h)

-- what is marked where an item was read is the item's text
pub marked_is_text : (p q new : Position) (e : BucketEntry) (text : List ℕ) → IsBytes p.rest → item_at p ≡ Ok (e, q)
    → (mark max_item_len).read p ≡ Ok (text, new) → IsItemText text e
unfolding mark
marked_is_text p q new e text fits h is =
    let says = item_says p e q h in
    let piece = (mark_lawful max_item_len (omega arith)).takes p q says.0 fits says.1 in
    let same : (says.0, q) ≡ (text, new) = cc (says.1, is) in
    subst (λ (t : List ℕ). IsItemText t e) (ap (λ (x : List ℕ × Position). x.0) same)
    (entire_is_text says.0 (after_mark p says.0) e piece.sized refl says.2)

-- what was read as an item is its record
pub record TakesRecord (p q : Position) (e : BucketEntry) : Type 0 where
  pub encodable : IsEncodable e
  pub taken : Takes p q (record_of e)

pub record_is_taken : (p q : Position) (e : BucketEntry) → IsBytes p.rest → item_at p ≡ Ok (e, q) → TakesRecord p q e
unfolding mark
record_is_taken p q e fits h =
    let says = item_says p e q h in
    let text = says.0 in
    let piece = (mark_lawful max_item_len (omega arith)).takes p q text fits says.1 in
    let item = marked_is_text p q q e text fits h says.1 in
    record {
      encodable = record {
        within = item.within;
        sized = item.sized;
        short = subst (λ (t : List ℕ). length t ≤ max_item_len) item.encoded piece.within;
      };
      taken = subst (λ (t : List ℕ). Takes p q ((mark max_item_len).encoding t)) item.encoded piece.taken;
    }

-- less is ahead after an item
pub item_shortens : (p q : Position) (e : BucketEntry) → item_at p ≡ Ok (e, q) → length q.rest < length p.rest
item_shortens p q e h =
    let says = item_says p e q h in
    omega (arith, marked_leaves max_item_len p q says.0 says.1)
