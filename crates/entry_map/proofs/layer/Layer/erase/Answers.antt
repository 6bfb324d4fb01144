use Rattle.entry_map.proofs.Prelude.{sym, subst, IsKeyedLayer}
use Rattle.entry_map.proofs.Layers.{either_way, keyed_change}
use Rattle.entry_map.proofs.layer.Layer.erase.Goals as goal

pub invariant_of-self-2 : goal.invariant_of-self-2
invariant_of-self-2 c = either_way c.insert.result c.insert.ensures.ok c.insert.ensures.err
    (λ put. subst IsKeyedLayer (sym put) (keyed_change c.self.inside.changes _ _ c.self.invariant (λ e same. absurd
    (cc))))
    (λ kept. subst IsKeyedLayer (sym kept) c.self.invariant)
