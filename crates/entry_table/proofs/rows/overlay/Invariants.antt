use Rattle.entry_table.proofs.Prelude.{◌≡◌, ◌+◌, ◌++◌, length, key_cmp, all_changed, putting, IsRising}
use Rattle.entry_table.proofs.rows.overlay.Given as goal

-- what was written goes on to the entire row
abbrev pub invariant-loop-ahead : goal.invariant-loop-ahead
invariant-loop-ahead g l = record {
  same : l.all.items ++ all_changed key_cmp (putting l.turns) l.ahead ≡ all_changed key_cmp (putting l.newer) l.older;
  ahead_rises : IsRising l.ahead;
  turns_rise : IsRising l.turns;
}

abbrev pub decreases-loop-ahead : goal.decreases-loop-ahead
decreases-loop-ahead g l = length l.ahead + length l.turns
