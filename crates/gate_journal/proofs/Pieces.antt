-- Pieces of a file, one after another.
use Rattle.std.proofs.Common.{◌≡◌, ℕ, ◌+◌, List, ◌++◌, length, take, drop, sym, ◌∙◌, ap}
use Rattle.std.proofs.Math.Seq.{take-add}
use Rattle.std.proofs.lemmas.List.{drop-drop, take_at, drop_at}

-- what is read from an offset on, and what after it
pub read_more : (done n at : ℕ) (prefix new file : List ℕ) → done ≡ length prefix → prefix ≡ take done (drop at file)
    → take n new ≡ take n (drop (at + done) file) → take (done + n) (prefix ++ new) ≡ take (done + n) (drop at file)
read_more done n at prefix new file long is more =
    take-add done n (prefix ++ new)
    ∙ ap (λ (l : List ℕ). l ++ take n (drop done (prefix ++ new))) (take_at prefix new done (sym long) ∙ is)
    ∙ ap (λ (l : List ℕ). take done (drop at file) ++ take n l) (drop_at prefix new done (sym long))
    ∙ ap (λ (l : List ℕ). take done (drop at file) ++ l) (more ∙ ap (take n) (sym (drop-drop done at file)))
    ∙ sym (take-add done n (drop at file))
