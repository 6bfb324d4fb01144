use Rattle.entry_map.proofs.Layers.{keyed_absorbed}
use Rattle.entry_map.proofs.layer.Layer.absorb.Goals as goal

pub invariant_of-self : goal.invariant_of-self
invariant_of-self c =
    keyed_absorbed c.self.inside.changes c.newer.inside.changes _ c.self.invariant c.newer.invariant
    c.absorb.ensures.each
