use Rattle.entry_map.proofs.Prelude.{sym, subst, IsKeyedLayer}
use Rattle.entry_map.proofs.Layers.{either_way, keyed_change, keyed_boxed}
use Rattle.entry_map.proofs.layer.Layer.put.Goals as goal

pub invariant_of-self : goal.invariant_of-self
invariant_of-self c = either_way c.insert.result c.insert.ensures.ok c.insert.ensures.err
    (λ put. subst IsKeyedLayer (sym put) (keyed_change c.self.inside.changes c.in_ok-key.key _ c.self.invariant
    (λ e same. keyed_boxed c.args.entry c.in_ok-entry.entry e c.in_ok-key.key c.in_ok-key.ensures c.in_ok-entry.ensures
    same)))
    (λ kept. subst IsKeyedLayer (sym kept) c.self.invariant)
