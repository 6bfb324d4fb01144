use Rattle.sample_ledger.proofs.Prelude.{ℕ, [], ◌∷◌, ap, ◌∙◌, codes, big_number, sha256, sample_text, draw}
use Rattle.sample_ledger.proofs.turn.draw.Goals as goal

pub returns : goal.returns
unfolding draw
returns c =
    let text = c.as_slice.ensures.value ∙ c.in_ok-text.ensures
    ∙ ap (λ (seed : ℕ). sample_text (codes "draw") (seed ∷ c.args.k ∷ c.args.account ∷ [])) c.seed.ensures in
    c.read_u64.ensures ∙ ap (big_number 8) (c.digest-digest.ensures ∙ ap sha256 text)
