use Rattle.bucket_items.proofs.Prelude.{◌≡◌, ◌∙◌, key_cmp, key_seen}
use Rattle.bucket_items.proofs.RefOrder.{refs_compared, seen_key, no_fault}
use Rattle.bucket_items.proofs.key_text.compare.Goals as goal

pub returns-in-Ok-Ok : goal.returns-in-Ok-Ok
returns-in-Ok-Ok c = λ k m h h'.
    let e : key_seen c.in-Ok-Ok.x ≡ k = seen_key _ k c.in-Ok-Ok.x _ _ h c.new-left.ensures c.in-Ok-Ok.ensures in
    let e' : key_seen c.in-Ok-Ok.y ≡ m = seen_key _ m c.in-Ok-Ok.y _ _ h' c.new-right.ensures c.in-Ok-Ok.ensures' in
    c.cmp.ensures ∙ refs_compared c.in-Ok-Ok.x c.in-Ok-Ok.y ∙ (λ i. key_cmp (e i) (e' i))

pub returns-in_default : goal.returns-in_default
returns-in_default c = λ k m h h'. no_fault _ m _ _ h' c.new-right.ensures c.in_default.ensures'.0

pub returns-in_default-2 : goal.returns-in_default-2
returns-in_default-2 c = λ k m h h'. no_fault _ k _ _ h c.new-left.ensures c.in_default.ensures.0
