use Rattle.tx_apply.proofs.Prelude.{take, AreAllFit}
use Rattle.tx_apply.proofs.fit.all_numbers_fit.Given as goal

-- those so far fit
abbrev pub invariant-loop-envelope : goal.invariant-loop-envelope
invariant-loop-envelope l = AreAllFit (take l.envelope-index l.envelopes)
