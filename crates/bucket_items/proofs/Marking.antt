-- An item after its mark is all of the marked bytes, and its discriminant is their prefix.
use Rattle.bucket_items.proofs.Prelude as prelude
use prelude.{◌≡◌, ℕ, ◌+◌, ℤ, pos, negsuc, List, [], ◌∷◌, ◌++◌, length, Some, Ok, Err, refl, sym, ap, subst, ◌∙◌}
use prelude.{append-nil, Option, None, IsSomeAnd, to_z, of_z, to_z-of_z, XdrFault, Position, Reading, start_of, ◌>>=◌}
use prelude.{IsBytes, i32, mark, BucketEntry, bucket_entry, bucket_entry_laws, item_type, type_with, IsItemText, Shows}
use prelude.{ended_by, ended, entire_at, max_item_len, after_mark, item_in, item_at, TakesItem}
use Rattle.std.proofs.Common.{Result}
use Rattle.std.proofs.Common.{w32}
use Rattle.xdr_core.proofs.Steps.{bind_ok}
use Rattle.xdr_core.proofs.LeafLaws.{i32_lawful, i32_within}
use Rattle.xdr_core.proofs.Discriminants.{discriminant_fits as numeral_fits}
use Rattle.ledger_types.specs.declared.bucket.BucketEntry.TheVariants as bucket
use Rattle.bucket_items.specs.declared.item.BucketItem.{BucketItem}

-- ---- an item that is all that is ahead

ended_ok : (rest : List ℕ) (q : Position) (x e : BucketEntry) → ended_by rest q x ≡ Ok e → (rest ≡ []) × (x ≡ e)
ended_ok [] q x e h = (refl, cc)
ended_ok (b ∷ rest) q x e h = absurd (cc)

pub entire_is_text : (text : List ℕ) (p : Position) (e : BucketEntry) → IsBytes text → p.rest ≡ text
    → entire_at p ≡ Ok e → IsItemText text e
entire_is_text text p e fits at h =
    let b = bind_ok (bucket_entry.read p) ended e h in
    let done = ended_ok b.0.1.rest b.0.1 b.0.0 e b.2 in
    let t = bucket_entry_laws.lawful.takes p b.0.1 b.0.0 (subst IsBytes (sym at) fits) b.1 in
    let entire : IsItemText text b.0.0 = record {
      encoded = sym at ∙ t.taken.parts ∙ ap (λ (x : List ℕ). bucket_entry.encoding b.0.0 ++ x) done.0
          ∙ append-nil (bucket_entry.encoding b.0.0);
      within = t.within;
      sized = t.sized;
    } in
    subst (IsItemText text) done.1 entire

-- ---- its discriminant

abbrev discriminant : BucketEntry → ℤ
discriminant (bucket.Meta version) = negsuc 0
discriminant (bucket.Live entry) = pos 0
discriminant (bucket.Dead gone) = pos 1
discriminant (bucket.Init entry) = pos 2

discriminant_fits : (e : BucketEntry) → i32.sized (discriminant e)
discriminant_fits (bucket.Meta version) = numeral_fits (negsuc 0) tt
discriminant_fits (bucket.Live entry) = numeral_fits (pos 0) tt
discriminant_fits (bucket.Dead gone) = numeral_fits (pos 1) tt
discriminant_fits (bucket.Init entry) = numeral_fits (pos 2) tt

pub type_of_discriminant : (e : BucketEntry) → type_with (discriminant e) ≡ Some (item_type e)
type_of_discriminant (bucket.Meta version) = refl
type_of_discriminant (bucket.Live entry) = refl
type_of_discriminant (bucket.Dead gone) = refl
type_of_discriminant (bucket.Init entry) = refl

begins : (e : BucketEntry) → (body : List ℕ) × (bucket_entry.encoding e ≡ i32.encoding (discriminant e) ++ body)
unfolding bucket_entry
begins (bucket.Meta version) = (_, refl)
begins (bucket.Live entry) = (_, refl)
begins (bucket.Dead gone) = (_, refl)
begins (bucket.Init entry) = (_, refl)

discriminant_is_read : (text : List ℕ) (e : BucketEntry) → IsItemText text e
    → (q : Position) × (i32.read (start_of text) ≡ Ok (discriminant e, q))
discriminant_is_read text e h =
    let b = begins e in
    let v = discriminant e in (
      record { at = 0 + length (i32.encoding v); rest = b.0 },
      ap (λ (t : List ℕ). i32.read (start_of t)) (h.encoded ∙ b.1)
          ∙ i32_lawful.again 0 v b.0 (i32_within v) (discriminant_fits e),
    )

-- a number that was read keeps its value
pub number_stays : (text : List ℕ) (p q : Position) (v : ℤ) → IsBytes text → p ≡ start_of text
    → i32.read p ≡ Ok (v, q) → to_z w32 (of_z w32 v) ≡ v
unfolding i32
number_stays text p q v fits a r =
    to_z-of_z {w = w32} {z = v} (i32_lawful.takes p q v (subst (λ (x : Position). IsBytes x.rest) (sym a) fits) r).sized

-- the prefix that was read is the type's discriminant
pub type_is_read : (text : List ℕ) (e : BucketEntry) (p q : Position) (v : ℤ) → IsItemText text e → p ≡ start_of text
    → i32.read p ≡ Ok (v, q) → type_with v ≡ Some (item_type e)
type_is_read text e p q v h a r =
    let d = discriminant_is_read text e h in
    let same : (v, q) ≡ (discriminant e, d.0) = cc (d.1, a, r) in
    ap (λ (y : ℤ × Position). type_with y.0) same ∙ type_of_discriminant e

pub type_has_no_fault : {A : Type 0} (text : List ℕ) (e : BucketEntry) (f : XdrFault) (p : Position)
    → IsItemText text e → p ≡ start_of text → i32.read p ≡ Err f → A
type_has_no_fault text e f p h a r = let d = discriminant_is_read text e h in absurd (cc (d.1, a, r))

-- ---- an item after its mark

-- what two cursors read after one mark
pub marked_same : (p r s q q' : Position) (text : List ℕ) (inner : Position) → r ≡ p → s ≡ p
    → (mark max_item_len).read r ≡ Ok (text, q) → (mark max_item_len).read s ≡ Ok (inner.rest, q')
    → inner.rest ≡ text
marked_same p r s q q' text inner a b e f =
    let t : (inner.rest, q') ≡ (text, q) = cc in
    ap (λ (x : List ℕ × Position). x.0) t

pub item_is_read : (p r s q q' : Position) (text : List ℕ) (inner : Position) (e : BucketEntry) → r ≡ p → s ≡ p
    → (mark max_item_len).read r ≡ Ok (text, q) → (mark max_item_len).read s ≡ Ok (inner.rest, q')
    → inner.at ≡ s.at + 4 → entire_at inner ≡ Ok e → item_at p ≡ Ok (e, q)
item_is_read p r s q q' text inner e a b f g at h =
    let read : (mark max_item_len).read p ≡ Ok (text, q) =
    ap (λ (x : Position). (mark max_item_len).read x) (sym a) ∙ f in
    let at_p : p.at + 4 ≡ inner.at = ap (λ (x : Position). x.at + 4) (sym b) ∙ sym at in
    let offset : after_mark p text ≡ inner =
    λ i. record { at = at_p i; rest = sym (marked_same p r s q q' text inner a b f g) i } in
    ap (λ (x : Reading XdrFault (List ℕ)). x >>= item_in p) read
    ∙ ap (λ (x : Position). entire_at x >>= λ e. Ok (e, q)) offset
    ∙ ap (λ (x : Result BucketEntry XdrFault). x >>= λ e. Ok (e, q)) h

-- the mark and the item of what was read
pub item_says : (p : Position) (e : BucketEntry) (q : Position) → item_at p ≡ Ok (e, q)
    → (text : List ℕ) × ((mark max_item_len).read p ≡ Ok (text, q)) × (entire_at (after_mark p text) ≡ Ok e)
item_says p e q h =
    let m = bind_ok ((mark max_item_len).read p) (item_in p) (e, q) h in
    let w = bind_ok (entire_at (after_mark p m.0.0)) (λ (x : BucketEntry). Ok (x, m.0.1)) (e, q) m.2 in
    let same : (w.0, m.0.1) ≡ (e, q) = cc (w.2) in
    let entry : w.0 ≡ e = ap (λ (y : BucketEntry × Position). y.0) same in
    let end : m.0.1 ≡ q = ap (λ (y : BucketEntry × Position). y.1) same in
    (m.0.0, m.1 ∙ ap (λ (x : Position). Ok (m.0.0, x)) end, w.1 ∙ ap Ok entry)

-- ---- an item that was shown

pub shown_itself : (item : BucketItem) (text : List ℕ) (e : BucketEntry) → Shows item text e
    → Shows item item.bytes.now e
shown_itself item text e h = subst (λ (t : List ℕ). Shows item t e) (sym h.bytes) h

pub takes_shown : (r : Option BucketItem) (new : Position) (e : BucketEntry) (q : Position) (text : List ℕ) → new ≡ q
    → IsSomeAnd r (λ item. Shows item text e) → TakesItem r new e q
takes_shown None new e q text at h = absurd h
takes_shown (Some item) new e q text at h = (at, shown_itself item text e h)
