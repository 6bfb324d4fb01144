use Rattle.image_rules.proofs.Rising.{RiseBefore}
use Rattle.image_rules.proofs.signers.do_rise.Given as goal

abbrev pub invariant-loop-index : goal.invariant-loop-index
invariant-loop-index l = RiseBefore l.signers l.index
