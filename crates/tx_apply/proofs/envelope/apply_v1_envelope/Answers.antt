use Rattle.tx_apply.proofs.Prelude.{◌≡◌, true, List, IfOk, OnOk, map, ap, subst, ◌∙◌, with_current, HeldSignature}
use Rattle.tx_apply.proofs.Prelude.{Checks, held, transaction_applied}
use Rattle.tx_apply.proofs.Encoded.{few_of_v1, signers_of_v1}
use Rattle.tx_apply.proofs.envelope.apply_v1_envelope.Goals as goal

pub apply_transaction-requires-clause-few : goal.apply_transaction-requires-clause-few
apply_transaction-requires-clause-few g c = few_of_v1 c.args.envelope.now c.requires.within

pub apply_transaction-requires-clause-signers : goal.apply_transaction-requires-clause-signers
apply_transaction-requires-clause-signers g c = signers_of_v1 c.args.envelope.now c.requires.within

pub returns-clause-outcome : goal.returns-clause-outcome
returns-clause-outcome g c =
    let of = held c.args.hash.now c.args.setting.now.vouches.now in
    let signed : c.in_ok-checker.checker.signatures ≡ map of c.args.envelope.now.signatures =
    ap (λ (k : Checks). k.signatures) c.in_ok-checker.ensures ∙ ap (map of) c.as_slice-signatures.ensures in
    subst (λ (ss : List HeldSignature). IfOk c.apply_transaction.result (λ outcome. outcome ≡
    (transaction_applied true c.args.setting.now.header.now.base_fee c.args.ctx.now c.args.hash.now ss
    c.args.envelope.now.tx
    c.args.entries.now.current).outcome)) signed c.apply_transaction.ensures.outcome

pub returns-clause-entries : goal.returns-clause-entries
returns-clause-entries g c =
    let of = held c.args.hash.now c.args.setting.now.vouches.now in
    let signed : c.in_ok-checker.checker.signatures ≡ map of c.args.envelope.now.signatures =
    ap (λ (k : Checks). k.signatures) c.in_ok-checker.ensures ∙ ap (map of) c.as_slice-signatures.ensures in
    subst (λ (ss : List HeldSignature). OnOk c.apply_transaction.result (c.apply_transaction.new.entries ≡
    with_current c.args.entries.now
    (transaction_applied true c.args.setting.now.header.now.base_fee c.args.ctx.now c.args.hash.now ss
    c.args.envelope.now.tx c.args.entries.now.current).entries)) signed c.apply_transaction.ensures.entries

pub returns-clause-id_pool : goal.returns-clause-id_pool
returns-clause-id_pool g c =
    let of = held c.args.hash.now c.args.setting.now.vouches.now in
    let signed : c.in_ok-checker.checker.signatures ≡ map of c.args.envelope.now.signatures =
    ap (λ (k : Checks). k.signatures) c.in_ok-checker.ensures ∙ ap (map of) c.as_slice-signatures.ensures in
    subst (λ (ss : List HeldSignature). OnOk c.apply_transaction.result (c.apply_transaction.new.ctx.id_pool ≡
    (transaction_applied true c.args.setting.now.header.now.base_fee c.args.ctx.now c.args.hash.now ss
    c.args.envelope.now.tx
    c.args.entries.now.current).id_pool)) signed c.apply_transaction.ensures.id_pool
