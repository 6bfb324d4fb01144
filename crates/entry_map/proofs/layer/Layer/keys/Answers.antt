use Rattle.entry_map.proofs.Prelude.{subst, IfOk, AreKeysOf}
use Rattle.entry_map.proofs.layer.Layer.keys.Goals as goal

pub returns : goal.returns
returns c = subst (λ m. IfOk c.keys.result (λ keys. AreKeysOf m keys.items)) c.self.view_is c.keys.ensures
