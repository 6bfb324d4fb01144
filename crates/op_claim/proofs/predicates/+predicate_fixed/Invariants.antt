use Rattle.op_claim.proofs.Prelude.{◌≡◌, take, map, fixed_below}
use Rattle.op_claim.proofs.predicates.+predicate_fixed.Given as goal

-- the parts fixed so far
abbrev pub invariant-all_fixed_below-loop-part : goal.invariant-all_fixed_below-loop-part
invariant-all_fixed_below-loop-part l = l.fixed ≡ map (fixed_below l.close_time l.levels) (take l.part-index l.parts)
