use Rattle.entry_map.proofs.Prelude.{◌≡◌, rules, subst, IfOk, IfOk-weaker, AreKeysOf}
use Rattle.std.specs.BTreeMap as tree
use Rattle.entry_map.proofs.KeyMaps.{keys-seen}
use Rattle.entry_map.proofs.key_map.KeyMap.into_keys.Goals as goal

pub returns : goal.returns
returns g c =
    let items : IfOk c.collect.result (λ v. v.items ≡ tree.keys c.self.inside.tree) = search rules in
    subst (λ m. IfOk c.collect.result (λ v. AreKeysOf m v.items)) c.self.view_is
    (IfOk-weaker c.collect.result _ _ (λ v e. keys-seen c.self.inside.tree v.items e c.into_keys.ensures.ordered) items)
