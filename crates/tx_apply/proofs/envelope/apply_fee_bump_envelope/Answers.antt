use Rattle.tx_apply.proofs.Prelude.{◌≡◌, List, IfOk, OnOk, ap, subst, ◌∙◌, Hash, with_current, HeldSignature}
use Rattle.tx_apply.proofs.Prelude.{Checks, all_held, transaction_hash_of}
use Rattle.tx_apply.specs.FeeBump.{BumpSigned, signed_by, bump_applied}
use Rattle.tx_apply.proofs.Encoded.{few_of_v1, inner_within, signers_of_v1}
use Rattle.tx_apply.proofs.envelope.apply_fee_bump_envelope.Goals as goal

pub transaction_hash-requires : goal.transaction_hash-requires
transaction_hash-requires g c = inner_within c.args.envelope.now c.requires.within

pub apply_fee_bump-requires-clause-few : goal.apply_fee_bump-requires-clause-few
apply_fee_bump-requires-clause-few g c =
    few_of_v1 c.args.envelope.now.tx.inner_tx (inner_within c.args.envelope.now c.requires.within)

pub apply_fee_bump-requires-clause-signers : goal.apply_fee_bump-requires-clause-signers
apply_fee_bump-requires-clause-signers g c =
    signers_of_v1 c.args.envelope.now.tx.inner_tx (inner_within c.args.envelope.now c.requires.within)

same_signed : (hash inner known : Hash) (outer_signed outer inner_signed own : List HeldSignature) → outer_signed ≡
    outer
    → inner ≡ known → inner_signed ≡ own
    → signed_by hash outer_signed inner inner_signed ≡ signed_by hash outer known own
same_signed hash inner known outer_signed outer inner_signed own e h g =
    ap (λ (ss : List HeldSignature). signed_by hash ss inner inner_signed) e
    ∙ ap (λ (x : Hash). signed_by hash outer x inner_signed) h
    ∙ ap (λ (ss : List HeldSignature). signed_by hash outer known ss) g

pub returns-clause-outcome : goal.returns-clause-outcome
returns-clause-outcome g c =
    let network = c.args.setting.now.network.now in
    let vouches = c.args.setting.now.vouches.now in
    let signed = c.args.envelope.now.tx.inner_tx in
    let same = same_signed c.args.hash.now c.in_ok-inner_hash.inner_hash (transaction_hash_of network signed.tx)
    c.in_ok-outer.outer.signatures (all_held c.args.hash.now vouches c.args.envelope.now.signatures)
    c.in_ok-inner.inner.signatures (all_held (transaction_hash_of network signed.tx) vouches signed.signatures)
    (ap (λ (k : Checks). k.signatures) c.in_ok-outer.ensures
    ∙ ap (all_held c.args.hash.now vouches) c.as_slice-signatures.ensures)
    c.in_ok-inner_hash.ensures
    (ap (λ (k : Checks). k.signatures) c.in_ok-inner.ensures
    ∙ ap (all_held c.in_ok-inner_hash.inner_hash vouches) c.as_slice-inner_signatures.ensures
    ∙ ap (λ (h : Hash). all_held h vouches signed.signatures) c.in_ok-inner_hash.ensures) in
    subst (λ (s : BumpSigned). IfOk c.apply_fee_bump.result
    (λ outcome. outcome ≡ (bump_applied c.args.setting.now.header.now.base_fee
    c.args.ctx.now s c.args.envelope.now.tx c.args.entries.now.current).outcome)) same
    c.apply_fee_bump.ensures.outcome

pub returns-clause-entries : goal.returns-clause-entries
returns-clause-entries g c =
    let network = c.args.setting.now.network.now in
    let vouches = c.args.setting.now.vouches.now in
    let signed = c.args.envelope.now.tx.inner_tx in
    let same = same_signed c.args.hash.now c.in_ok-inner_hash.inner_hash (transaction_hash_of network signed.tx)
    c.in_ok-outer.outer.signatures (all_held c.args.hash.now vouches c.args.envelope.now.signatures)
    c.in_ok-inner.inner.signatures (all_held (transaction_hash_of network signed.tx) vouches signed.signatures)
    (ap (λ (k : Checks). k.signatures) c.in_ok-outer.ensures
    ∙ ap (all_held c.args.hash.now vouches) c.as_slice-signatures.ensures)
    c.in_ok-inner_hash.ensures
    (ap (λ (k : Checks). k.signatures) c.in_ok-inner.ensures
    ∙ ap (all_held c.in_ok-inner_hash.inner_hash vouches) c.as_slice-inner_signatures.ensures
    ∙ ap (λ (h : Hash). all_held h vouches signed.signatures) c.in_ok-inner_hash.ensures) in
    subst (λ (s : BumpSigned). OnOk c.apply_fee_bump.result
    (c.apply_fee_bump.new.entries ≡ with_current c.args.entries.now
    (bump_applied c.args.setting.now.header.now.base_fee c.args.ctx.now s c.args.envelope.now.tx
    c.args.entries.now.current).entries)) same
    c.apply_fee_bump.ensures.entries

pub returns-clause-id_pool : goal.returns-clause-id_pool
returns-clause-id_pool g c =
    let network = c.args.setting.now.network.now in
    let vouches = c.args.setting.now.vouches.now in
    let signed = c.args.envelope.now.tx.inner_tx in
    let same = same_signed c.args.hash.now c.in_ok-inner_hash.inner_hash (transaction_hash_of network signed.tx)
    c.in_ok-outer.outer.signatures (all_held c.args.hash.now vouches c.args.envelope.now.signatures)
    c.in_ok-inner.inner.signatures (all_held (transaction_hash_of network signed.tx) vouches signed.signatures)
    (ap (λ (k : Checks). k.signatures) c.in_ok-outer.ensures
    ∙ ap (all_held c.args.hash.now vouches) c.as_slice-signatures.ensures)
    c.in_ok-inner_hash.ensures
    (ap (λ (k : Checks). k.signatures) c.in_ok-inner.ensures
    ∙ ap (all_held c.in_ok-inner_hash.inner_hash vouches) c.as_slice-inner_signatures.ensures
    ∙ ap (λ (h : Hash). all_held h vouches signed.signatures) c.in_ok-inner_hash.ensures) in
    subst (λ (s : BumpSigned). OnOk c.apply_fee_bump.result
    (c.apply_fee_bump.new.ctx.id_pool ≡ (bump_applied c.args.setting.now.header.now.base_fee
    c.args.ctx.now s c.args.envelope.now.tx c.args.entries.now.current).id_pool)) same
    c.apply_fee_bump.ensures.id_pool
