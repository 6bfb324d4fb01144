use Rattle.entry_map.proofs.Prelude.{◌||◌, ap, sym, ◌∙◌, contains_key, list_any, eq_by_cmp, key_cmp}
use Rattle.entry_map.proofs.KeyMaps.{contains-seen, key_moved}
use Rattle.entry_map.proofs.key_map.KeyMap.add_keys_to.Goals as goal

pub loop-key-init : goal.loop-key-init
loop-key-init g c q =
    ap (λ b. contains_key c.args.keys.now q || b)
    (ap (list_any (eq_by_cmp key_cmp q))
    (c.into_iter-key-iterator.ensures.into_iter_gives ∙ c.keys-key-items.ensures.rest)
    ∙ sym (contains-seen c.self.inside.tree q) ∙ ap (λ m. contains_key m q) c.self.view_is)

pub loop-key-preserved : goal.loop-key-preserved
loop-key-preserved g c q =
    key_moved q _ _ _ _ _ _ _ c.in_ok-insert.ensures.ok c.in_ok-copy.ensures c.in-Some.ensures.steps
    ∙ c.loop-key.invariant q
