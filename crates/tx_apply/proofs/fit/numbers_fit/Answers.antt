use Rattle.tx_apply.proofs.Prelude.{rules, sym, subst, Operation, format, IsFit}
use Rattle.tx_apply.proofs.Fitting.{holds_more, holds_all}
use Rattle.tx_apply.proofs.Within.{body_within}
use Rattle.tx_apply.proofs.fit.numbers_fit.Goals as goal

pub loop-operation-preserved : goal.loop-operation-preserved
loop-operation-preserved c =
    holds_more (λ (operation : Operation). IsFit operation.body) c.args.operations.now c.loop-operation.operation-index
    c.operation-item.result
    c.loop-operation-test.true c.operation-item.is c.loop-operation.invariant c.number_fits.ensures

pub returns : goal.returns
returns c =
    holds_all (λ (operation : Operation). IsFit operation.body) c.args.operations.now c.loop-operation.operation-index
    (search rules)
    c.loop-operation.invariant

pub number_fits-requires : goal.number_fits-requires
number_fits-requires c =
    body_within c.operation-item.result
    (subst format.within (sym c.operation-item.is)
    (c.requires c.loop-operation.operation-index c.operation-item.result c.loop-operation-test.true))
