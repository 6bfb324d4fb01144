-- The parts of keys whose encodings are in their order.
use Rattle.bucket_items.proofs.Prelude.{◌≡◌, ℕ, ℤ, pos, List, ◌++◌, replicate, refl, sym, ap, ◌∙◌, append_assoc}
use Rattle.bucket_items.proofs.Prelude.{Ordering, nat_cmp, ordering_then, Format, i32, fixed, padding_len, number, ◌⨾◌}
use Rattle.bucket_items.proofs.Prelude.{Fields, struct_of, marked, Xdr, tag, IsWide, AccountId, TrustLineAsset}
use Rattle.bucket_items.proofs.Prelude.{bytes_cmp, account_cmp, hash_cmp, line_cmp, account_id_fields, account_id}
use Rattle.bucket_items.proofs.Prelude.{hash_fields, hash, balance_id_fields, claimable_balance_id, trust_line_asset}
use Rattle.ledger_types.specs.declared.asset.TrustLineAsset.TheVariants as line
use Rattle.bucket_items.proofs.ByteOrder.{then_assoc, same_long, same_prefix, big_bytes_cmp}

-- the first values that are apart decide how two texts compare, and else what follows does
pub record Ordered {F V : Type 0} (f : Format F V) (cmp : V → V → Ordering) : Type 0 where
  pub decides : (v w : V) (x y : List ℕ) → f.within v → f.within w → f.sized v → f.sized w
      → bytes_cmp (f.encoding v ++ x) (f.encoding w ++ y) ≡ ordering_then (cmp v w) (bytes_cmp x y)

pub both_ordered : {F A B : Type 0} {f : Format F A} {g : Format F B} {C : A → A → Ordering} {D : B → B → Ordering}
    → Ordered f C → Ordered g D → Ordered (f ⨾ g) (λ v w. ordering_then (C v.0 w.0) (D v.1 w.1))
both_ordered {f = f} {g = g} {C = C} {D = D} a b = record {
  decides = λ v w x y wv ww sv sw.
      (λ i. bytes_cmp (append_assoc (f.encoding v.0) (g.encoding v.1) x i)
      (append_assoc (f.encoding w.0) (g.encoding w.1) y i))
      ∙ a.decides v.0 w.0 (g.encoding v.1 ++ x) (g.encoding w.1 ++ y) wv.0 ww.0 sv.0 sw.0
      ∙ ap (ordering_then (C v.0 w.0)) (b.decides v.1 w.1 x y wv.1 ww.1 sv.1 sw.1)
      ∙ sym (then_assoc (C v.0 w.0) (D v.1 w.1) (bytes_cmp x y));
}

pub struct_ordered : {F A V : Type 0} {f : Format F A} {C : A → A → Ordering} (fields : Fields A V) → Ordered f C
    → Ordered (struct_of fields f) (λ v w. C (fields.from v) (fields.from w))
struct_ordered fields a = record {
  decides = λ v w x y wv ww sv sw. a.decides (fields.from v) (fields.from w) x y wv ww sv sw;
}

pub marked_ordered : {F A : Type 0} {f : Format F A} {C : A → A → Ordering} (mark : Format F (Unit {0}))
    → Ordered f C → Ordered (marked mark f) C
marked_ordered {f = f} mark a = record {
  decides = λ v w x y wv ww sv sw.
      (λ i. bytes_cmp (append_assoc (mark.encoding tt) (f.encoding v) x i)
      (append_assoc (mark.encoding tt) (f.encoding w) y i))
      ∙ same_prefix (mark.encoding tt) (f.encoding v ++ x) (f.encoding w ++ y)
      ∙ a.decides v w x y wv.1 ww.1 sv.1 sw.1;
}

pub number_ordered : (n : ℕ) → IsWide n → Ordered (number n) nat_cmp
number_ordered n wide = record {
  decides = λ v w x y wv ww sv sw.
      same_long ((number n).encoding v) ((number n).encoding w) x y (wide.len v ∙ sym (wide.len w))
      ∙ ap (λ (o : Ordering). ordering_then o (bytes_cmp x y)) (big_bytes_cmp n v w sv sw);
}

pub fixed_ordered : (n : ℕ) → Ordered (fixed n) bytes_cmp
unfolding fixed
fixed_ordered n = record {
  decides = λ v w x y wv ww sv sw.
      let zeros : List ℕ = replicate (padding_len n) 0 in
      (λ i. bytes_cmp ((v ++ replicate (padding_len (wv i)) 0) ++ x) ((w ++ replicate (padding_len (ww i)) 0) ++ y))
      ∙ (λ i. bytes_cmp (append_assoc v zeros x i) (append_assoc w zeros y i))
      ∙ same_long v w (zeros ++ x) (zeros ++ y) (wv ∙ sym ww)
      ∙ ap (ordering_then (bytes_cmp v w)) (same_prefix zeros x y);
}

pub account_ordered : Ordered account_id account_cmp
unfolding account_id
account_ordered = struct_ordered account_id_fields (marked_ordered (tag (pos 0)) (fixed_ordered 32))

pub hash_ordered : Ordered hash hash_cmp
unfolding hash
hash_ordered = struct_ordered hash_fields (fixed_ordered 32)

pub balance_ordered : Ordered claimable_balance_id (λ a b. hash_cmp a.0 b.0)
unfolding claimable_balance_id
balance_ordered = struct_ordered balance_id_fields (marked_ordered (tag (pos 0)) hash_ordered)

-- two values after one discriminant
pub same_arm : {B : Type 0} (mark : ℤ) (f : Xdr B) (C : B → B → Ordering) → Ordered f C → (v w : B) (x y : List ℕ)
    → f.within v → f.within w → f.sized v → f.sized w
    → bytes_cmp ((i32.encoding mark ++ f.encoding v) ++ x) ((i32.encoding mark ++ f.encoding w) ++ y)
    ≡ ordering_then (C v w) (bytes_cmp x y)
same_arm mark f C a v w x y wv ww sv sw =
    (λ i. bytes_cmp (append_assoc (i32.encoding mark) (f.encoding v) x i)
    (append_assoc (i32.encoding mark) (f.encoding w) y i))
    ∙ same_prefix (i32.encoding mark) (f.encoding v ++ x) (f.encoding w ++ y)
    ∙ a.decides v w x y wv ww sv sw

-- how two codes with their issuers compare
abbrev code_cmp : List ℕ × AccountId → List ℕ × AccountId → Ordering
code_cmp v w = ordering_then (bytes_cmp v.0 w.0) (account_cmp v.1 w.1)

code_ordered : (n : ℕ) → Ordered (fixed n ⨾ account_id) code_cmp
code_ordered n = both_ordered (fixed_ordered n) account_ordered

line_decides : (v w : TrustLineAsset) (x y : List ℕ) → trust_line_asset.within v → trust_line_asset.within w
    → trust_line_asset.sized v → trust_line_asset.sized w
    → bytes_cmp (trust_line_asset.encoding v ++ x) (trust_line_asset.encoding w ++ y)
    ≡ ordering_then (line_cmp v w) (bytes_cmp x y)
unfolding trust_line_asset i32
line_decides line.Native line.Native x y wv ww sv sw = refl
line_decides line.Native (line.Alphanum4 c' i') x y wv ww sv sw = refl
line_decides line.Native (line.Alphanum12 c' i') x y wv ww sv sw = refl
line_decides line.Native (line.PoolShare p') x y wv ww sv sw = refl
line_decides (line.Alphanum4 c i) line.Native x y wv ww sv sw = refl
line_decides (line.Alphanum4 c i) (line.Alphanum4 c' i') x y wv ww sv sw =
    same_arm (pos 1) (fixed 4 ⨾ account_id) code_cmp (code_ordered 4) (c, i) (c', i') x y wv ww sv sw
line_decides (line.Alphanum4 c i) (line.Alphanum12 c' i') x y wv ww sv sw = refl
line_decides (line.Alphanum4 c i) (line.PoolShare p') x y wv ww sv sw = refl
line_decides (line.Alphanum12 c i) line.Native x y wv ww sv sw = refl
line_decides (line.Alphanum12 c i) (line.Alphanum4 c' i') x y wv ww sv sw = refl
line_decides (line.Alphanum12 c i) (line.Alphanum12 c' i') x y wv ww sv sw =
    same_arm (pos 2) (fixed 12 ⨾ account_id) code_cmp (code_ordered 12) (c, i) (c', i') x y wv ww sv sw
line_decides (line.Alphanum12 c i) (line.PoolShare p') x y wv ww sv sw = refl
line_decides (line.PoolShare p) line.Native x y wv ww sv sw = refl
line_decides (line.PoolShare p) (line.Alphanum4 c' i') x y wv ww sv sw = refl
line_decides (line.PoolShare p) (line.Alphanum12 c' i') x y wv ww sv sw = refl
line_decides (line.PoolShare p) (line.PoolShare p') x y wv ww sv sw =
    same_arm (pos 3) hash hash_cmp hash_ordered p p' x y wv ww sv sw

pub line_ordered : Ordered trust_line_asset line_cmp
line_ordered = record { decides = line_decides }
