use Rattle.change_stream.proofs.Prelude.{[], ap, append_assoc, inverse, reversed, sym, ◌++◌, ◌∙◌, ◌∷◌, ◌≡◌}
use Rattle.change_stream.proofs.Undoing.{nothing_left, reversed_last}
use Rattle.change_stream.proofs.change.reverse.Goals as goal

pub loop-last-preserved : goal.loop-last-preserved
loop-last-preserved c =
    let back = c.loop-last.back.items in
    let last = c.in-Some.last.now in
    let earlier = c.in-Some.earlier.now in
    let pushed : c.push.new.self.items ≡ back ++ inverse last ∷ [] =
    c.in_ok-push.ensures.items ∙ ap (λ x. back ++ x ∷ []) c.in_ok-change.ensures in
    c.loop-last.invariant
    ∙ ap (λ x. back ++ reversed x) c.in-Some.ensures.cases.0
    ∙ ap (λ x. back ++ x) (reversed_last earlier last)
    ∙ sym (append_assoc back (inverse last ∷ []) (reversed earlier))
    ∙ ap (λ x. x ++ reversed earlier) (sym pushed)

pub returns : goal.returns
returns c = nothing_left c.loop-last.ahead.now c.args.list.now c.loop-last.back.items c.loop-last.invariant
    c.in_default.ensures.cases
