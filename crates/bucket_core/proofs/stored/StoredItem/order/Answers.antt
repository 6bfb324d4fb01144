use Rattle.bucket_core.proofs.StoredItems.{begins_with_key}
use Rattle.bucket_core.proofs.stored.StoredItem.order.Goals as goal

pub returns : goal.returns
returns c = λ k text.
    c.order_prefix.ensures c.args.self.now.0 k
    (begins_with_key c.self.inside.text.now c.from_key.result.now c.args.self.now c.self.invariant c.self.view_is
    c.from_key.ensures) text
