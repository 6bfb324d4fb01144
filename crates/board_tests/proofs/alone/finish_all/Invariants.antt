use Rattle.board_tests.proofs.Prelude.{◌≡◌, ◌+◌, length, vec_len, AllByRecursion, IsWorkerOf, IsWorkerEndOf}
use Rattle.board_tests.proofs.alone.finish_all.Given as goal

abbrev pub invariant-loop-worker : goal.invariant-loop-worker
invariant-loop-worker l = record {
  workers : AllByRecursion (IsWorkerOf l.room) l.workers.items;
  ends : AllByRecursion (IsWorkerEndOf l.room) l.ends.items;
  count : length l.ends.items + length l.workers.items ≡ length l.initial.workers.items;
}

abbrev pub decreases-loop-worker : goal.decreases-loop-worker
decreases-loop-worker l = vec_len l.workers
