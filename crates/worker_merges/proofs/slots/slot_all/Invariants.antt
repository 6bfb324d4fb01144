use Rattle.worker_merges.proofs.Prelude.{◌≡◌, ◌+◌, vec_len, All, AllByRecursion, IsWorkerOf, Room, IsManned}
use Rattle.worker_merges.proofs.slots.slot_all.Given as goal

abbrev pub invariant-loop-worker : goal.invariant-loop-worker
invariant-loop-worker l = record {
  count : vec_len l.slots + vec_len l.hired ≡ vec_len l.initial.hired;
  manned : (room : Room) → AllByRecursion (IsWorkerOf room) l.initial.hired.items
      → AllByRecursion (IsWorkerOf room) l.hired.items × All (IsManned room) l.slots.items;
}

abbrev pub decreases-loop-worker : goal.decreases-loop-worker
decreases-loop-worker l = vec_len l.hired
