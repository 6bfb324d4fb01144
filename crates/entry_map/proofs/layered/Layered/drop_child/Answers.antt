use Rattle.entry_map.proofs.Prelude.{◌∙◌, ap, undone}
use Rattle.entry_map.proofs.Under.{undo_of-drop}
use Rattle.entry_map.proofs.layered.Layered.drop_child.Goals as goal

pub returns-in-Some : goal.returns-in-Some
returns-in-Some g c =
    undo_of-drop (g.B.Base.entries c.self.inside.base.now) c.self.inside.lower.items c.pop.new.self.items
    c.in-Some.below c.self.inside.top c.in-Some.ensures.items
    ∙ ap undone c.self.view_is
