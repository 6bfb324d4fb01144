-- Reading records one after another.
use Rattle.archive_files.proofs.Prelude.{AreFacts, Err, HasFacts, IsBytes, Lawful, List, Ok, Position, Reading, Result}
use Rattle.archive_files.proofs.Prelude.{Xdr, XdrFault, [], ap, append-nil, arith, ended, entire_at, fact_in, length}
use Rattle.archive_files.proofs.Prelude.{max_record_len, refl, start_of, subst, sym, ℕ, ◌++◌, ◌+◌, ◌<◌, ◌>>=◌, ◌∙◌}
use Rattle.archive_files.proofs.Prelude.{◌∷◌, ◌≡◌, ◌≤◌}
use Rattle.xdr_core.proofs.Marks.{marked_leaves}
use Rattle.xdr_core.proofs.Steps.{bind_ok}
use Rattle.xdr_core.specs.Leaves.{mark}
use Rattle.archive_files.specs.Records.{IsFactOf, after_mark, ended_by, fact_at}

-- one record more at the end
pub facts_more : {X : Type 0} (read : Position → Reading XdrFault X) (xs : List X) (x : X) (p m q : Position)
    → AreFacts read xs p m → read m ≡ Ok (x, q) → AreFacts read (xs ++ x ∷ []) p q
facts_more read [] x p m q h e = (q, ap read h ∙ e, refl)
facts_more read (y ∷ xs) x p m q h e = (h.0, h.1, facts_more read xs x h.0 m q h.2 e)

-- ---- one record

ended_ok : {V : Type 0} (rest : List ℕ) (q : Position) (v w : V) → ended_by rest q v ≡ Ok w → (rest ≡ []) × (v ≡ w)
ended_ok [] q v w h = (refl, cc h)
ended_ok (b ∷ rest) q v w h = absurd cc

-- the same piece, read twice
read_twice : (p r s q q' : Position) (text : List ℕ) (inner : Position) → r ≡ p → s ≡ p
    → (mark max_record_len).read r ≡ Ok (text, q) → (mark max_record_len).read s ≡ Ok (inner.rest, q')
    → inner.rest ≡ text
read_twice p r s q q' text inner a b e f =
    let t : (inner.rest, q') ≡ (text, q) = cc in
    ap (λ (x : List ℕ × Position). x.0) t

pub same_piece : (p r s q q' : Position) (text : List ℕ) (inner : Position) → r ≡ p → s ≡ p
    → (mark max_record_len).read r ≡ Ok (text, q) → (mark max_record_len).read s ≡ Ok (inner.rest, q')
    → inner.at ≡ s.at + 4 → after_mark p text ≡ inner
same_piece p r s q q' text inner a b e f at =
    let at_p : p.at + 4 ≡ inner.at = ap (λ (x : Position). x.at + 4) (sym b) ∙ sym at in
    λ i. record { at = at_p i; rest = sym (read_twice p r s q q' text inner a b e f) i }

-- the mark that was read before a record
marked : {V X : Type 0} (f : Xdr V) (fact_of : ℕ → V → X) (p q : Position) (x : X) → fact_at f fact_of p ≡ Ok (x, q)
    → (text : List ℕ) × ((mark max_record_len).read p ≡ Ok (text, q))
unfolding fact_at
marked {V} {X} f fact_of p q x h =
    let m = bind_ok ((mark max_record_len).read p) (fact_in f fact_of p) (x, q) h in
    let w = bind_ok (entire_at f (after_mark p m.0.0)) (λ (v : V). Ok (fact_of p.at v, m.0.1)) (x, q) m.2 in
    let same : (fact_of p.at w.0, m.0.1) ≡ (x, q) = cc (w.2) in
    let end : m.0.1 ≡ q = ap (λ (y : X × Position). y.1) same in
    (m.0.0, m.1 ∙ ap (λ (y : Position). Ok (m.0.0, y)) end)

-- less is ahead after a record
pub record_shortens : {V X : Type 0} (f : Xdr V) (fact_of : ℕ → V → X) (p q : Position) (x : X)
    → fact_at f fact_of p ≡ Ok (x, q) → length q.rest < length p.rest
record_shortens f fact_of p q x h =
    let m = marked f fact_of p q x h in
    omega (arith, marked_leaves max_record_len p q m.0 m.1)

-- a value that was read of bytes keeps its bounds, and they are its encoding
pub record IsEntire {V : Type 0} (f : Xdr V) (text : List ℕ) (v : V) : Type 0 where
  pub within : f.within v
  pub encoded : text ≡ f.encoding v

pub entire_is : {V : Type 0} (f : Xdr V) (p : Position) (v : V) → Lawful f → IsBytes p.rest → entire_at f p ≡ Ok v
    → IsEntire f p.rest v
entire_is {V} f p v lawful fits h =
    let b = bind_ok (f.read p) ended v h in
    let done = ended_ok b.0.1.rest b.0.1 b.0.0 v b.2 in
    let t = lawful.takes p b.0.1 b.0.0 fits b.1 in
    subst (λ x. IsEntire f p.rest x) done.1 (record {
      within = t.within;
      encoded = t.taken.parts ∙ ap (λ (l : List ℕ). f.encoding b.0.0 ++ l) done.0 ∙ append-nil (f.encoding b.0.0);
    })

-- the mark, the piece after it and the value in that were read
pub fact_is_read : {V X : Type 0} (f : Xdr V) (fact_of : ℕ → V → X) (p r s q q' : Position) (text : List ℕ)
    (inner : Position) (x : X) → r ≡ p → s ≡ p
    → (mark max_record_len).read r ≡ Ok (text, q) → (mark max_record_len).read s ≡ Ok (inner.rest, q')
    → inner.at ≡ s.at + 4 → IsFactOf (entire_at f inner) (fact_of p.at) x → fact_at f fact_of p ≡ Ok (x, q)
unfolding fact_at
fact_is_read {V} {X} f fact_of p r s q q' text inner x a b e g at h =
    let read : (mark max_record_len).read p ≡ Ok (text, q) =
    ap (λ (y : Position). (mark max_record_len).read y) (sym a) ∙ e in
    let piece : after_mark p text ≡ inner = same_piece p r s q q' text inner a b e g at in
    ap (λ (y : Reading XdrFault (List ℕ)). y >>= fact_in f fact_of p) read
    ∙ ap (λ (y : Position). entire_at f y >>= λ v. Ok (fact_of p.at v, q)) piece
    ∙ ap (λ (y : Result V XdrFault). y >>= λ v. Ok (fact_of p.at v, q)) h.1
    ∙ ap (λ (y : X). Ok (y, q)) h.2

-- the piece was read, and the value in it was not
pub fact_fails : {V X : Type 0} (f : Xdr V) (fact_of : ℕ → V → X) (p r s q q' : Position) (text : List ℕ)
    (inner : Position) (d : XdrFault) → r ≡ p → s ≡ p → (mark max_record_len).read r ≡ Ok (text, q)
    → (mark max_record_len).read s ≡ Ok (inner.rest, q')
    → inner.at ≡ s.at + 4 → entire_at f inner ≡ Err d → fact_at f fact_of p ≡ Err d
unfolding fact_at
fact_fails {V} {X} f fact_of p r s q q' text inner d a b e g at h =
    let read : (mark max_record_len).read p ≡ Ok (text, q) =
    ap (λ (y : Position). (mark max_record_len).read y) (sym a) ∙ e in
    let piece : after_mark p text ≡ inner = same_piece p r s q q' text inner a b e g at in
    ap (λ (y : Reading XdrFault (List ℕ)). y >>= fact_in f fact_of p) read
    ∙ ap (λ (y : Position). entire_at f y >>= λ v. Ok (fact_of p.at v, q)) piece
    ∙ ap (λ (y : Result V XdrFault). y >>= λ v. Ok (fact_of p.at v, q)) h

-- ---- a file

-- there are no more records than bytes
few : {V X : Type 0} (f : Xdr V) (fact_of : ℕ → V → X) (xs : List X) (p q : Position)
    → AreFacts (fact_at f fact_of) xs p q → length xs ≤ length p.rest
few f fact_of [] p q h = omega arith
few f fact_of (x ∷ xs) p q h =
    let shorter = record_shortens f fact_of p h.0 x h.1 in
    let others = few f fact_of xs h.0 q h.2 in
    omega arith

pub few_records : {V X : Type 0} (f : Xdr V) (fact_of : ℕ → V → X) (xs : List X) (file : List ℕ)
    → HasFacts (fact_at f fact_of) file xs → length xs ≤ length file
few_records f fact_of xs file h = few f fact_of xs (start_of file) h.end h.facts
