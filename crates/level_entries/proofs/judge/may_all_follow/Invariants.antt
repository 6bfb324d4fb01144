use Rattle.level_entries.proofs.Prelude.{◌+◌, ◌↔◌, drop, length, IsRising, MayAllFollow}
use Rattle.level_entries.proofs.judge.may_all_follow.Given as goal

-- what is left is judged as all is
abbrev pub invariant-loop-index : goal.invariant-loop-index
invariant-loop-index l = record {
  older : IsRising (drop l.index l.older);
  newer : IsRising (drop l.turn l.newer);
  same : MayAllFollow (drop l.index l.older) (drop l.turn l.newer) ↔ MayAllFollow l.older l.newer;
}

abbrev pub decreases-loop-index : goal.decreases-loop-index
decreases-loop-index l = length (drop l.index l.older) + length (drop l.turn l.newer)
