use Rattle.entry_map.proofs.Prelude.{IfOk-weaker}
use Rattle.entry_map.proofs.Batches.{changed_keys_are}
use Rattle.entry_map.proofs.changes.collected_keys.Goals as goal

pub returns : goal.returns
returns c = IfOk-weaker c.into_keys.result _ _
    (λ keys listed. changed_keys_are c.args.lower.now c.args.top.now c.new-keys.result c.add_keys_to.new.keys
    c.add_changed_keys.new.keys keys.items
    c.new-keys.ensures c.in_ok-add_keys_to.ensures c.in_ok-add_changed_keys.ensures listed) c.into_keys.ensures
