use Rattle.level_entries.proofs.Prelude.{◌≡◌, ◌+◌, ◌++◌, ◌≤◌, drop, length, key_cmp, all_changed, putting, IsRising}
use Rattle.level_entries.proofs.overlay.overlay.Given as goal

-- what was written goes on to the entire row
abbrev pub invariant-loop-index : goal.invariant-loop-index
invariant-loop-index l = record {
  older : l.index ≤ length l.older;
  newer : l.turn ≤ length l.newer;
  older_rises : IsRising (drop l.index l.older);
  newer_rises : IsRising (drop l.turn l.newer);
  same : l.all.items ++ all_changed key_cmp (putting (drop l.turn l.newer)) (drop l.index l.older)
      ≡ all_changed key_cmp (putting l.newer) l.older;
}

abbrev pub decreases-loop-index : goal.decreases-loop-index
decreases-loop-index l = length (drop l.index l.older) + length (drop l.turn l.newer)
