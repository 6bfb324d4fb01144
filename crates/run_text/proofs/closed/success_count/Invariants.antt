use Rattle.std.proofs.Common.{◌≡◌, ◌≤◌, take}
use Rattle.run_outcome.specs.Lines.{success_count}
use Rattle.run_text.proofs.closed.success_count.Given as goal

abbrev pub invariant-loop-pair : goal.invariant-loop-pair
invariant-loop-pair l = record {
  so_far : l.count ≡ success_count (take l.pair-index l.pairs);
  fits : l.count ≤ l.pair-index;
}
