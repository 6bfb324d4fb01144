-- How the hash of a file's end grows by what is read.
use Rattle.image_store.proofs.Prelude.{◌≡◌, sym, ap, ◌∙◌, ℕ, ◌+◌, List, ◌++◌, length, take, drop, arith, length-drop}
use Rattle.image_store.proofs.Prelude.{take-append-drop, take-take, drop-take, drop-drop, take_all}

pub taken_more : (file : List ℕ) (at done count : ℕ)
    → take done (drop at file) ++ take count (drop (at + done) file) ≡ take (done + count) (drop at file)
taken_more file at done count =
    let rest : List ℕ = drop at file in
    ap (λ (l : List ℕ). take done rest ++ take count l) (sym (drop-drop done at file))
    ∙ sym (λ i. take-take done (done + count) rest (omega arith) i ++ drop-take done count rest i)
    ∙ take-append-drop done (take (done + count) rest)

pub taken_all : (file : List ℕ) (at len : ℕ) → length file ≡ at + len → take len (drop at file) ≡ drop at file
taken_all file at len is = take_all len (drop at file) (omega (arith, length-drop at file, is))
