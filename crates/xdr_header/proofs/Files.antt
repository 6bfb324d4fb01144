-- Files one after another, as loops read and write them.
use Rattle.xdr_header.proofs.Prelude.{◌≡◌, ℕ, zero, suc, ◌-◌, ◌+◌, ◌≤◌, ◌<◌, List, [], ◌∷◌, ◌++◌, length, Ok, Err, refl}
use Rattle.xdr_header.proofs.Prelude.{sym, ap, ◌∙◌, append_assoc, arith, fold, append-nil, XdrFault, Position, Reading}
use Rattle.xdr_header.proofs.Prelude.{◌>>=◌, u64, with_prefix, file, files}

-- a file, and those that were read after it
abbrev paired : List ℕ → List (List ℕ) × Position → Reading XdrFault (List ℕ × List (List ℕ))
paired v x = Ok ((v, x.0), x.1)

abbrev joined : (List ℕ × List (List ℕ)) × Position → Reading XdrFault (List (List ℕ))
joined x = Ok (x.0.0 ∷ x.0.1, x.1)

regroup : (prefix : List (List ℕ)) (v : List ℕ) (reading : Reading XdrFault (List (List ℕ)))
    → with_prefix prefix ((reading >>= paired v) >>= joined) ≡ with_prefix (prefix ++ v ∷ []) reading
regroup prefix v (Ok x) = ap (λ vs. Ok (vs, x.1)) (simp append_assoc)
regroup prefix v (Err f) = refl

-- one file was read
pub goes_on : (prefix : List (List ℕ)) (len i room : ℕ) (p q : Position) (v : List ℕ)
    (total : Reading XdrFault (List (List ℕ)))
    → i < len → (file room).read p ≡ Ok (v, q)
    → with_prefix prefix ((files (len - i) room).read p) ≡ total
    → with_prefix (prefix ++ v ∷ []) ((files (len - (i + 1)) (room - length v)).read q) ≡ total
unfolding files
goes_on prefix len i room p q v total lt h so_far =
    let k : len - i ≡ suc (len - (i + 1)) = omega arith in
    let one : with_prefix prefix ((files (len - i) room).read p)
    ≡ with_prefix (prefix ++ v ∷ []) ((files (len - (i + 1)) (room - length v)).read q) = rw (k, h)
    (regroup prefix v ((files (len - (i + 1)) (room - length v)).read q)) in
    sym one ∙ so_far

-- a file was not read
pub ends_at : (prefix : List (List ℕ)) (len i room : ℕ) (p : Position) (e : XdrFault)
    (total : Reading XdrFault (List (List ℕ)))
    → i < len → (file room).read p ≡ Err e
    → with_prefix prefix ((files (len - i) room).read p) ≡ total → total ≡ Err e
unfolding files
ends_at prefix len i room p e total lt h so_far =
    let k : len - i ≡ suc (len - (i + 1)) = omega arith in
    let one : with_prefix prefix ((files (len - i) room).read p) ≡ Err e = rw (k, h) refl in
    sym so_far ∙ one

pub is_done : (prefix : List (List ℕ)) (len i room : ℕ) (p : Position) (total : Reading XdrFault (List (List ℕ)))
    → len ≤ i
    → with_prefix prefix ((files (len - i) room).read p) ≡ total → total ≡ Ok (prefix, p)
unfolding files
is_done prefix len i room p total le so_far =
    let k : len - i ≡ 0 = omega arith in
    let one : with_prefix prefix ((files (len - i) room).read p)
    ≡ Ok (prefix, p) = rw k (ap (λ vs. Ok (vs, p)) (append-nil prefix)) in
    sym so_far ∙ one

-- a file after its length, whatever room there is
abbrev pub file_onto : List ℕ → List ℕ → List ℕ
file_onto out v = u64.onto out (length v) ++ v

pub files-onto : (n left : ℕ) (out : List ℕ) (vs : List (List ℕ)) → (files n left).within vs
    → (files n left).onto out vs ≡ fold file_onto out vs
unfolding files file
files-onto zero left out vs h = rw h refl
files-onto (suc n) left out [] h = absurd h.0
files-onto (suc n) left out (v ∷ vs) h = files-onto n (left - length v) (file_onto out v) vs h.1.1
