use Rattle.tx_apply.proofs.Prelude.{take, AreFit}
use Rattle.tx_apply.proofs.fit.numbers_fit.Given as goal

-- those so far fit
abbrev pub invariant-loop-operation : goal.invariant-loop-operation
invariant-loop-operation l = AreFit (take l.operation-index l.operations)
