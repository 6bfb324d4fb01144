use Rattle.bucket_items.proofs.Prelude.{◌≡◌, ◌∙◌, key_cmp, key_seen}
use Rattle.bucket_items.proofs.RefOrder.{begins, refs_compared, seen_key, no_fault}
use Rattle.bucket_items.proofs.key_text.compare_with.Goals as goal

pub returns-in-Ok : goal.returns-in-Ok
returns-in-Ok c = λ k h.
    let e : key_seen c.in-Ok.other ≡ k =
    seen_key _ k c.in-Ok.other _ _ (begins _ k h) c.new-ahead.ensures c.in-Ok.ensures in
    c.cmp.ensures ∙ refs_compared c.of.result c.in-Ok.other ∙ (λ i. key_cmp (c.of.ensures i) (e i))

pub returns-in-Err : goal.returns-in-Err
returns-in-Err c = λ k h. no_fault _ k _ _ (begins _ k h) c.new-ahead.ensures c.in-Err.ensures.0
