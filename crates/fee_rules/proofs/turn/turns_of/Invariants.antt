use Rattle.fee_rules.proofs.Ranks.{SoFar}
use Rattle.fee_rules.proofs.turn.turns_of.Given as goal

abbrev pub invariant-loop-i : goal.invariant-loop-i
invariant-loop-i l = SoFar l.set_hash l.queued l.turns.items l.start l.i
