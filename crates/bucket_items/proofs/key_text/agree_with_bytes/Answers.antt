use Rattle.bucket_items.proofs.Prelude.{◌≡◌, ◌∙◌, arith, key_kind}
use Rattle.bucket_items.proofs.KeyBytes.{kind_is_there, by_kinds, by_ids, no_sign}
use Rattle.std.proofs.lemmas.Bool.{ltb-true}
use Rattle.bucket_items.proofs.key_text.agree_with_bytes.Goals as goal

pub returns-then-kind-byte_at : goal.returns-then-kind-byte_at
returns-then-kind-byte_at c = λ k m h g t.
    let p : c.byte_at-kind.result ≡ key_kind k = c.byte_at-kind.ensures ∙ kind_is_there c.args.a.now k h in
    let q : c.byte_at.result ≡ key_kind m = c.byte_at.ensures ∙ kind_is_there c.args.b.now m g in
    by_kinds k m
    (λ e. let x : key_kind k ≡ 2 = e.0 in let y : key_kind m ≡ 2 = e.1 in omega arith)
    (λ e. let x : key_kind k ≡ 3 = e.0 in let y : key_kind m ≡ 3 = e.1 in omega arith)

pub returns-then-byte_at-lt128 : goal.returns-then-byte_at-lt128
returns-then-byte_at-lt128 c = λ k m h g t.
    let p : c.byte_at-kind.result ≡ key_kind k = c.byte_at-kind.ensures ∙ kind_is_there c.args.a.now k h in
    let first = c.byte_at-then-kind-eq-OFFER.ensures in
    let second = c.byte_at-then-byte_at-lt128.ensures in
    let low = ltb-true c.byte_at-then-byte_at-lt128.result 128 t in
    by_ids k m (no_sign c.args.a.now k h (omega (arith, first, c.if-byte_at-lt128.true)))
    (no_sign c.args.b.now m g (omega (arith, second, low)))
    (λ e. let x : key_kind k ≡ 3 = e.0 in omega arith)

pub returns : goal.returns
returns c = λ k m h g t.
    let p : c.byte_at-kind.result ≡ key_kind k = c.byte_at-kind.ensures ∙ kind_is_there c.args.a.now k h in
    by_kinds k m
    (λ e. let x : key_kind k ≡ 2 = e.0 in omega arith)
    (λ e. let x : key_kind k ≡ 3 = e.0 in omega arith)
