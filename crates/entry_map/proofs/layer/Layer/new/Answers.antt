use Rattle.entry_map.proofs.Prelude.{sym, subst, IsKeyedLayer}
use Rattle.entry_map.proofs.Layers.{keyed_empty}
use Rattle.entry_map.proofs.layer.Layer.new.Goals as goal

pub invariant_of-result : goal.invariant_of-result
invariant_of-result c = subst IsKeyedLayer (sym c.new.ensures) keyed_empty
