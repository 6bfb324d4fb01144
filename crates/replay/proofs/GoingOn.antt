-- A run after records that close ledgers.
use Rattle.replay.proofs.Prelude.{◌≡◌, ℕ, ◌+◌, ◌≤◌, List, [], ◌∷◌, ◌++◌, length, sym, ap, subst, ◌∙◌, append_assoc}
use Rattle.replay.proofs.Prelude.{arith, length-append, All-head, All-tail, ClosingState, Outcome, after, framed}
use Rattle.replay.proofs.Prelude.{max_record_len, frames, lines_of, IsRun, RunsGoOn}
use Rattle.replay.proofs.Runs.{prepended}

-- a run at an offset of a text
abbrev RunsAt : ClosingState → (at : ℕ) (rest : List ℕ) → Outcome → Type 0
RunsAt s at rest o = IsRun s (record { at = at; rest = rest }) o

pub runs_go_on : RunsGoOn
runs_go_on s now [] lines at rest o short closed run =
    let offset : at + 0 ≡ at = omega arith in
    let here = subst (λ (x : ClosingState). RunsAt x at rest o) closed.1
    (subst (λ (n : ℕ). RunsAt now n rest o) offset run) in
    subst (λ (l : List ℕ). RunsAt s at rest (after l o)) (sym closed.0) here
runs_go_on s now (bytes ∷ records) lines at rest o short closed run =
    let c = closed.0 in
    let more : List ℕ = closed.1 in
    let offset : at + length (framed bytes ++ frames records) ≡ at + length (framed bytes) + length (frames records) =
    omega (arith, length-append (framed bytes) (frames records)) in
    let others = runs_go_on c.state now records more (at + length (framed bytes)) rest o
    (All-tail (λ b. length b ≤ max_record_len) bytes records short) closed.3
    (subst (λ (n : ℕ). RunsAt now n rest o) offset run) in
    let all = prepended s bytes c at (frames records ++ rest) (after more o)
    (All-head (λ b. length b ≤ max_record_len) bytes records short) closed.2 others in
    let text : lines_of c ++ (more ++ o.text) ≡ lines ++ o.text =
    sym (append_assoc (lines_of c) more o.text) ∙ ap (λ (l : List ℕ). l ++ o.text) (sym closed.4) in
    let entire : List ℕ = (framed bytes ++ frames records) ++ rest in
    subst (λ (x : List ℕ). RunsAt s at entire (record { status = o.status; text = x })) text
    (subst (λ (t : List ℕ). RunsAt s at t (after (lines_of c) (after more o)))
    (sym (append_assoc (framed bytes) (frames records) rest)) all)
