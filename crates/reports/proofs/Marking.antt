-- Records after their marks: a mark reads the same at every offset.
use Rattle.reports.proofs.Prelude.{◌≡◌, ℕ, ◌+◌, ◌-◌, ◌^◌, ◌≤◌, Bool, true, false, List, [], ◌++◌, length, take, drop}
use Rattle.reports.proofs.Prelude.{Result, Ok, Err, refl, sym, ap, subst, ◌∙◌, add_assoc, add-zero, zero-add, arith}
use Rattle.reports.proofs.Prelude.{nat_lt, length-append, big_number, big_bytes, XdrFault, Short, BadMark, TooLong}
use Rattle.reports.proofs.Prelude.{Position, Reading, start_of, fault_at, short_at, ◌>>=◌, IsBytes, mark, number_at}
use Rattle.reports.proofs.Prelude.{mark_len, mark_word, bounded, bytes_at, mark_laws, wide4, end_by, record_end, framed}
use Rattle.reports.proofs.Prelude.{max_record_len, drop_at, take_at}
use Rattle.std.proofs.Common.{cond}
use Rattle.xdr_core.specs.Position.{onward}
use Rattle.xdr_core.proofs.Marks.{mark_is_read}

abbrev pub read_mark : Position → Reading XdrFault (List ℕ)
read_mark p = (mark max_record_len).read p

pub framed_is_read : (at : ℕ) (bytes rest : List ℕ) → length bytes ≤ max_record_len
    → read_mark (record { at = at; rest = framed bytes ++ rest })
    ≡ Ok (bytes, record { at = at + length (framed bytes); rest = rest })
framed_is_read at bytes rest short = mark_is_read max_record_len at bytes rest (omega arith) short

-- ---- a record at the start

pub record Prefix (ahead : List ℕ) (end : ℕ) : Type 0 where
  pub bytes : List ℕ
  pub short : length bytes ≤ max_record_len
  pub entire : ahead ≡ framed bytes ++ drop end ahead
  pub len : end ≡ length (framed bytes)
  pub framed_is : framed bytes ≡ take end ahead
  pub bytes_are : bytes ≡ drop 4 (take end ahead)
  pub above : 4 ≤ end
  pub within : end ≤ length ahead

end_ok : {V : Type 0} (r : Reading XdrFault V) (end : ℕ) → end_by r ≡ Ok end
    → (x : V × Position) × (r ≡ Ok x) × (x.1.at ≡ end)
end_ok (Ok x) end e = (x, refl, cc)
end_ok (Err wrong) end e = absurd cc

-- a mark and its bytes
framed_drop : (bytes : List ℕ) → drop 4 (framed bytes) ≡ bytes
unfolding mark
framed_drop bytes = drop_at (big_bytes 4 (mark_word (length bytes))) bytes 4 (wide4.len (mark_word (length bytes)))

pub framed_len : (bytes : List ℕ) → length (framed bytes) ≡ 4 + length bytes
unfolding mark
framed_len bytes =
    let len = wide4.len (mark_word (length bytes)) in
    omega (arith, len, length-append (big_bytes 4 (mark_word (length bytes))) bytes)

pub framed_above : (bytes : List ℕ) → 4 ≤ length (framed bytes)
unfolding mark
framed_above bytes =
    let len = wide4.len (mark_word (length bytes)) in
    omega (arith, len, length-append (big_bytes 4 (mark_word (length bytes))) bytes)

pub mark_fits : (bytes : List ℕ) → (mark max_record_len).within bytes → length bytes ≤ max_record_len
unfolding mark
mark_fits bytes h = h

pub prefix_of : (ahead : List ℕ) (end : ℕ) → IsBytes ahead → record_end ahead ≡ Ok end → Prefix ahead end
prefix_of ahead end fits e =
    let r = end_ok (read_mark (start_of ahead)) end e in
    let s = (mark_laws max_record_len (omega arith)).lawful.takes (start_of ahead) r.0.1 r.0.0 fits r.1 in
    let len : end ≡ length (framed r.0.0) = sym r.2 ∙ s.taken.at ∙ zero-add (length (framed r.0.0)) in
    let parts : ahead ≡ framed r.0.0 ++ r.0.1.rest = s.taken.parts in
    let prefix : take end ahead ≡ framed r.0.0 =
    ap (take end) parts ∙ take_at (framed r.0.0) r.0.1.rest end (sym len) in
    let rest : drop end ahead ≡ r.0.1.rest =
    ap (drop end) parts ∙ drop_at (framed r.0.0) r.0.1.rest end (sym len) in
    record {
      bytes = r.0.0;
      short = mark_fits r.0.0 s.within;
      entire = parts ∙ ap (λ (t : List ℕ). framed r.0.0 ++ t) (sym rest);
      len = len;
      framed_is = sym prefix;
      bytes_are = sym (framed_drop r.0.0) ∙ ap (drop 4) (sym prefix);
      above = subst (λ (n : ℕ). 4 ≤ n) (sym len) (framed_above r.0.0);
      within = omega (arith, ap length parts, length-append (framed r.0.0) r.0.1.rest);
    }

-- ---- the same at another offset

abbrev pub moved : ℕ → Position → Position
moved k p = record { at = k + p.at; rest = p.rest }

-- the same answer, k bytes further on
abbrev pub Moved : {V : Type 0} → ℕ → Reading XdrFault V → Reading XdrFault V → Type 0
Moved k (Ok x) r = r ≡ Ok (x.0, moved k x.1)
Moved k (Err w) r = r ≡ Err (record { at = k + w.at; kind = w.kind })

moved_then : {A B : Type 0} (k : ℕ) (r s : Reading XdrFault A) (f g : A × Position → Reading XdrFault B) → Moved k r s
    → ((x : A × Position) → Moved k (f x) (g (x.0, moved k x.1))) → Moved k (r >>= f) (s >>= g)
moved_then {A} {B} k (Ok x) s f g m h =
    subst (λ (t : Reading XdrFault A). Moved k (f x) (t >>= g)) (sym m) (h x)
moved_then {A} {B} k (Err w) s f g m h = ap (λ (t : Reading XdrFault A). t >>= g) m

moved_cond : {V : Type 0} (k : ℕ) (b : Bool) (r s x y : Reading XdrFault V) → Moved k r x → Moved k s y
    → Moved k (cond b r s) (cond b x y)
moved_cond k true r s x y h i = h
moved_cond k false r s x y h i = i

short_moves : {V : Type 0} (k : ℕ) (p : Position) → Moved {V = V} k (Err (short_at p)) (Err (short_at (moved k p)))
short_moves k p = ap (λ (a : ℕ). Err (record { at = a; kind = Short })) (add_assoc k p.at (length p.rest))

onward_moves : {V : Type 0} (k n : ℕ) (p : Position) (v : V)
    → Moved {V = V} k (Ok (v, onward n p)) (Ok (v, onward n (moved k p)))
onward_moves k n p v = ap (λ (a : ℕ). Ok (v, record { at = a; rest = drop n p.rest })) (add_assoc k p.at n)

number_moves : (n k : ℕ) (p : Position) → Moved k (number_at n p) (number_at n (moved k p))
number_moves n k p =
    moved_cond k (nat_lt (length p.rest) n) (Err (short_at p)) (Ok (big_number n p.rest, onward n p))
    (Err (short_at (moved k p))) (Ok (big_number n p.rest, onward n (moved k p))) (short_moves k p)
    (onward_moves k n p (big_number n p.rest))

bytes_move : (n k : ℕ) (p : Position) → Moved k (bytes_at n p) (bytes_at n (moved k p))
bytes_move n k p =
    moved_cond k (nat_lt (length p.rest) n) (Err (short_at p)) (Ok (take n p.rest, onward n p))
    (Err (short_at (moved k p))) (Ok (take n p.rest, onward n (moved k p))) (short_moves k p)
    (onward_moves k n p (take n p.rest))

bounded_moves : (max k : ℕ) (p : Position) (n : ℕ × Position)
    → Moved k (bounded max p n) (bounded max (moved k p) (n.0, moved k n.1))
bounded_moves max k p n =
    moved_cond k (nat_lt max n.0) (Err (fault_at p TooLong)) (Ok n) (Err (fault_at (moved k p) TooLong))
    (Ok (n.0, moved k n.1)) refl refl

mark_len_moves : (max k : ℕ) (p : Position) (n : ℕ × Position)
    → Moved k (mark_len max p n) (mark_len max (moved k p) (n.0, moved k n.1))
mark_len_moves max k p n =
    moved_cond k (nat_lt n.0 (2 ^ 31)) (Err (fault_at p BadMark)) (bounded max p (n.0 - 2 ^ 31, n.1))
    (Err (fault_at (moved k p) BadMark)) (bounded max (moved k p) (n.0 - 2 ^ 31, moved k n.1)) refl
    (bounded_moves max k p (n.0 - 2 ^ 31, n.1))

pub mark_moves : (max k : ℕ) (p : Position) → Moved k ((mark max).read p) ((mark max).read (moved k p))
unfolding mark
mark_moves max k p =
    moved_then k (number_at 4 p >>= mark_len max p) (number_at 4 (moved k p) >>= mark_len max (moved k p))
    (λ n. bytes_at n.0 n.1) (λ n. bytes_at n.0 n.1)
    (moved_then k (number_at 4 p) (number_at 4 (moved k p)) (mark_len max p) (mark_len max (moved k p))
    (number_moves 4 k p) (mark_len_moves max k p))
    (λ n. bytes_move n.0 k n.1)

pub fault_after : (at : ℕ) (text : List ℕ) (wrong : XdrFault) → read_mark (start_of text) ≡ Err wrong
    → read_mark (record { at = at; rest = text }) ≡ Err (record { at = at + wrong.at; kind = wrong.kind })
fault_after at text wrong e =
    let h = subst (λ (r : Reading XdrFault (List ℕ)). Moved at r (read_mark (moved at (start_of text)))) e
    (mark_moves max_record_len at (start_of text)) in
    subst (λ (a : ℕ). read_mark (record { at = a; rest = text })
    ≡ Err (record { at = at + wrong.at; kind = wrong.kind })) (add-zero at) h

-- no byte is too short a text
abbrev failed : Result ℕ XdrFault → Result ℕ XdrFault
failed r = r

fault_kind : (a b : XdrFault) → failed (Err a) ≡ Err b → b.kind ≡ a.kind
fault_kind a b e = cc

pub empty_is_short : (wrong : XdrFault) → record_end [] ≡ Err wrong → wrong.kind ≡ Short
unfolding mark
empty_is_short wrong e = fault_kind (record { at = 0; kind = Short }) wrong e
