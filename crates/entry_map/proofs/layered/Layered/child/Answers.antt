use Rattle.entry_map.proofs.Prelude.{◌∙◌, ap, opened}
use Rattle.entry_map.proofs.Under.{undo_of-child}
use Rattle.entry_map.proofs.layered.Layered.child.Goals as goal

pub returns : goal.returns
returns g c =
    undo_of-child (g.B.Base.entries c.self.inside.base.now) c.self.inside.lower.items c.push.new.self.items
    c.self.inside.top c.replace-top.new.dest
    (cc (c.in_ok-push.ensures.items, c.replace-top.ensures.value)) (c.replace-top.ensures.after ∙ c.new.ensures)
    ∙ ap opened c.self.view_is
