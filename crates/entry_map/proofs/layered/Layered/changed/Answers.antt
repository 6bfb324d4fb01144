use Rattle.entry_map.proofs.Prelude.{ap, ◌∙◌, undo_of}
use Rattle.entry_map.proofs.Under.{changed_under}
use Rattle.entry_map.proofs.layered.Layered.changed.Goals as goal

pub returns : goal.returns
returns g c =
    changed_under (g.B.Base.entries c.self.inside.base.now) c.as_slice.result.now c.self.inside.top c.args.key.now
    c.args.self.now
    (ap (λ ls. undo_of (g.B.Base.entries c.self.inside.base.now) ls c.self.inside.top) c.as_slice.ensures.value
    ∙ c.self.view_is)
    c.change_at.result c.change_at.ensures
