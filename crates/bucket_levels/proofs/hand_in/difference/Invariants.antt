use Rattle.bucket_levels.proofs.Prelude.{◌≡◌, take}
use Rattle.bucket_levels.proofs.hand_in.difference.Given as goal

-- the texts are one up to here
abbrev pub invariant-loop-at : goal.invariant-loop-at
invariant-loop-at l = take l.at l.a ≡ take l.at l.b
