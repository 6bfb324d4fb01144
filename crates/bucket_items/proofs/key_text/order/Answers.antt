use Rattle.bucket_items.proofs.Prelude.{◌∙◌}
use Rattle.bucket_items.proofs.KeyBytes.{bytes_are_ordered}
use Rattle.bucket_items.proofs.RefOrder.{begins}
use Rattle.bucket_items.proofs.key_text.order.Goals as goal

pub returns-then-agree_with_bytes : goal.returns-then-agree_with_bytes
returns-then-agree_with_bytes c = λ k m h g.
    c.cmp.ensures ∙ bytes_are_ordered c.args.a.now c.args.b.now k m
    (c.agree_with_bytes.ensures k m (begins _ k h) (begins _ m g) c.if-agree_with_bytes.true) h g

pub returns-else-agree_with_bytes : goal.returns-else-agree_with_bytes
returns-else-agree_with_bytes c = λ k m h g. c.compare.ensures k m (begins _ k h) (begins _ m g)
