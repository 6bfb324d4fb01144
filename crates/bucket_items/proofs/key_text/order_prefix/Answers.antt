use Rattle.bucket_items.proofs.Prelude.{◌∙◌, ap, bytes_cmp}
use Rattle.bucket_items.proofs.KeyBytes.{prefixes_are_ordered}
use Rattle.bucket_items.proofs.RefOrder.{begins}
use Rattle.bucket_items.proofs.key_text.order_prefix.Goals as goal

pub returns-then-agree_with_bytes : goal.returns-then-agree_with_bytes
returns-then-agree_with_bytes c = λ k m h g.
    c.cmp.ensures ∙ ap (λ t. bytes_cmp t c.args.key.now) c.first.ensures
    ∙ prefixes_are_ordered c.args.text.now c.args.key.now k m
    (c.agree_with_bytes.ensures k m h (begins _ m g) c.if-agree_with_bytes.true) h g

pub returns-else-agree_with_bytes : goal.returns-else-agree_with_bytes
returns-else-agree_with_bytes c = λ k m h g. c.compare.ensures k m h (begins _ m g)
