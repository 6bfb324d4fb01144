use Rattle.entry_map.proofs.Prelude.{subst, IsKeyedLayer}
use Rattle.entry_map.proofs.layer.Layer.get.Goals as goal

pub returns-clause-keyed : goal.returns-clause-keyed
returns-clause-keyed c = subst IsKeyedLayer c.self.view_is c.self.invariant
