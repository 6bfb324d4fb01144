use Rattle.entry_map.proofs.Prelude.{rules, ◌≡◌, [], ◌∷◌, ◌++◌, sym, ap, subst, ◌∙◌, append-nil, append_assoc}
use Rattle.entry_map.proofs.Prelude.{AreKeysOf}
use Rattle.entry_map.proofs.KeyMaps.{keys-seen}
use Rattle.entry_map.proofs.key_map.KeyMap.keys.Goals as goal

pub loop-key-init : goal.loop-key-init
loop-key-init g c =
    let none : c.in_ok-keys.keys.items ≡ [] = search rules in
    subst (λ m. AreKeysOf m (c.in_ok-keys.keys.items ++ c.into_iter-key-iterator.result)) c.self.view_is
    (keys-seen c.self.inside.tree (c.in_ok-keys.keys.items ++ c.into_iter-key-iterator.result)
    (ap (λ ks. ks ++ c.into_iter-key-iterator.result) none
    ∙ c.into_iter-key-iterator.ensures.into_iter_gives ∙ c.keys-key-items.ensures.rest)
    c.keys-key-items.ensures.ordered)

pub loop-key-preserved : goal.loop-key-preserved
loop-key-preserved g c =
    subst (AreKeysOf c.args.self.now)
    (ap (λ ks. c.loop-key.keys.items ++ ks) c.in-Some.ensures.steps
    ∙ sym (append_assoc c.loop-key.keys.items (c.in-Some.key.now ∷ []) c.next.new.self)
    ∙ ap (λ ks. ks ++ c.next.new.self)
    (ap (λ k. c.loop-key.keys.items ++ k ∷ []) (sym c.in_ok-copy.ensures) ∙ sym c.in_ok-push.ensures.items))
    c.loop-key.invariant

pub returns : goal.returns
returns g c =
    subst (AreKeysOf c.args.self.now)
    (ap (λ ks. c.loop-key.keys.items ++ ks) c.in-None.ensures.steps.0 ∙ append-nil c.loop-key.keys.items)
    c.loop-key.invariant
