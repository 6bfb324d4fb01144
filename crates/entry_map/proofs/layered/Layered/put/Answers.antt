use Rattle.entry_map.proofs.Prelude.{◌∙◌, ap, on_ok_weaker, put, with_current}
use Rattle.entry_map.proofs.Under.{undo_of-put}
use Rattle.entry_map.proofs.layered.Layered.put.Goals as goal

pub returns : goal.returns
returns g c = on_ok_weaker c.put.result
    (λ is. undo_of-put (g.B.Base.entries c.self.inside.base.now) c.self.inside.lower.items c.self.inside.top
    c.put.new.self c.args.entry is
    ∙ ap (λ u. with_current u (put u.current c.args.entry)) c.self.view_is)
    c.put.ensures
