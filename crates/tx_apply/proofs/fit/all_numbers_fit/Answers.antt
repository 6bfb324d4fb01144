use Rattle.tx_apply.proofs.Prelude.{rules, sym, subst, All, TransactionEnvelope, operation, transaction_envelope}
use Rattle.tx_apply.proofs.Prelude.{operations_of, AreFit}
use Rattle.tx_apply.proofs.Fitting.{holds_more, holds_all}
use Rattle.tx_apply.proofs.Within.{operations_within}
use Rattle.tx_apply.proofs.fit.all_numbers_fit.Goals as goal

pub loop-envelope-preserved : goal.loop-envelope-preserved
loop-envelope-preserved c =
    holds_more (λ (entire : TransactionEnvelope). AreFit (operations_of entire)) c.args.envelopes.now
    c.loop-envelope.envelope-index c.envelope-item.result
    c.loop-envelope-test.true c.envelope-item.is c.loop-envelope.invariant (search rules)

pub returns : goal.returns
returns c =
    holds_all (λ (entire : TransactionEnvelope). AreFit (operations_of entire)) c.args.envelopes.now
    c.loop-envelope.envelope-index (search rules)
    c.loop-envelope.invariant

pub numbers_fit-requires : goal.numbers_fit-requires
numbers_fit-requires c =
    subst (λ xs. All operation.within xs) (sym c.operations_of.ensures)
    (operations_within c.envelope-item.result
    (subst transaction_envelope.within (sym c.envelope-item.is)
    (c.requires c.loop-envelope.envelope-index c.envelope-item.result c.loop-envelope-test.true)))
