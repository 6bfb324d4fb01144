use Rattle.entry_map.proofs.Prelude.{◌∙◌, ap, option_or, get, kept}
use Rattle.entry_map.proofs.Under.{undo_of-commit}
use Rattle.entry_map.proofs.layered.Layered.commit.Goals as goal

pub returns-in_ok-absorb : goal.returns-in_ok-absorb
returns-in_ok-absorb g c =
    undo_of-commit (g.B.Base.entries c.self.inside.base.now) c.self.inside.lower.items c.pop.new.self.items
    c.in-Some.below c.self.inside.top c.absorb.new.self c.in-Some.ensures.items
    (λ q. c.in_ok-absorb.ensures q
    ∙ ap (λ l. option_or (get l q) (get c.replace-top.new.dest q)) c.replace-top.ensures.value
    ∙ ap (λ l. option_or (get c.self.inside.top q) (get l q)) c.replace-top.ensures.after)
    ∙ ap kept c.self.view_is
