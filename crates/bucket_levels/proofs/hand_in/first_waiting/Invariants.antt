use Rattle.bucket_levels.proofs.Prelude.{NoneWaitsAbove}
use Rattle.bucket_levels.proofs.hand_in.first_waiting.Given as goal

abbrev pub invariant-loop-level : goal.invariant-loop-level
invariant-loop-level l = NoneWaitsAbove l.merges l.level
