use Rattle.entry_map.proofs.Prelude.{arith, IfOk-weaker}
use Rattle.entry_map.proofs.Batches.{keys_of_one}
use Rattle.entry_map.proofs.changes.changed_keys.Goals as goal

pub returns-in-empty : goal.returns-in-empty
returns-in-empty c = IfOk-weaker c.keys.result _ _
    (λ keys listed. keys_of_one c.args.lower.now c.args.top.now keys.items (omega arith) listed) c.keys.ensures
