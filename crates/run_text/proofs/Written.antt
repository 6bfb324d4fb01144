-- A text that was written piece by piece.
use Rattle.std.proofs.Common.{◌≡◌, ℕ, List, ◌++◌, ap, ◌∙◌, append_assoc}

-- one piece more after what was written
pub then_text : (out written before after piece : List ℕ) → after ≡ before ++ piece → before ≡ out ++ written
    → after ≡ out ++ (written ++ piece)
then_text out written before after piece h k = h ∙ ap (λ x. x ++ piece) k ∙ append_assoc out written piece
