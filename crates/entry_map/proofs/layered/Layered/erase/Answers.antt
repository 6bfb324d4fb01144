use Rattle.entry_map.proofs.Prelude.{◌∙◌, ap, on_ok_weaker, erase, with_current}
use Rattle.entry_map.proofs.Under.{undo_of-erase}
use Rattle.entry_map.proofs.layered.Layered.erase.Goals as goal

pub returns : goal.returns
returns g c = on_ok_weaker c.erase.result
    (λ is. undo_of-erase (g.B.Base.entries c.self.inside.base.now) c.self.inside.lower.items c.self.inside.top
    c.erase.new.self c.args.key.now is
    ∙ ap (λ u. with_current u (erase u.current c.args.key.now)) c.self.view_is)
    c.erase.ensures
