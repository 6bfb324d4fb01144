use Rattle.entry_map.proofs.Under.{undo_of-started}
use Rattle.entry_map.proofs.layered.Layered.new.Goals as goal

pub returns : goal.returns
returns g c = undo_of-started
    (g.B.Base.entries c.args.base.now) c.new.result.items c.new-2.result c.new.ensures.items c.new-2.ensures
