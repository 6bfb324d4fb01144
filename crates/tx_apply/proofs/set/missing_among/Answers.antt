use Rattle.tx_apply.proofs.Prelude.{◌<◌, length, get_or, is_some, sym, ap, ◌∙◌, rules, AccountId, account_at}
use Rattle.tx_apply.proofs.Missing.{missing_here, missing_next, none_missing}
use Rattle.tx_apply.proofs.set.missing_among.Goals as goal

pub returns-then-not-branch : goal.returns-then-not-branch
returns-then-not-branch g c =
    let there : get_or c.args.indices.now c.loop-index.index-index 0 < length c.args.envelopes.now = search rules in
    sym (c.loop-index.invariant
    ∙ missing_here c.args.entries.now.current c.args.envelopes.now c.args.indices.now c.loop-index.index-index
    c.index-envelopes-index.result c.in_ok-exists.field-0 c.loop-index-test.true there c.index-envelopes-index.is
    (c.in_ok-exists.ensures ∙ ap (λ (id : AccountId). is_some (account_at c.args.entries.now.current id))
    c.fee_source.ensures) (search rules))

pub loop-index-preserved : goal.loop-index-preserved
loop-index-preserved g c =
    let there : get_or c.args.indices.now c.loop-index.index-index 0 < length c.args.envelopes.now = search rules in
    c.loop-index.invariant
    ∙ missing_next c.args.entries.now.current c.args.envelopes.now c.args.indices.now c.loop-index.index-index
    c.index-envelopes-index.result c.in_ok-exists.field-0 c.loop-index-test.true there c.index-envelopes-index.is
    (c.in_ok-exists.ensures ∙ ap (λ (id : AccountId). is_some (account_at c.args.entries.now.current id))
    c.fee_source.ensures) (search rules)

pub returns : goal.returns
returns g c =
    sym (c.loop-index.invariant
    ∙ none_missing c.args.entries.now.current c.args.envelopes.now c.args.indices.now c.loop-index.index-index
    (search rules))
