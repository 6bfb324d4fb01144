use Rattle.worker_merges.proofs.Prelude.{◌≡◌, ◌+◌, ◌≤◌, vec_len, All, vec_capacity, AllByRecursion, IsWorkerEndOf, Room}
use Rattle.worker_merges.proofs.Prelude.{HasEnded}
use Rattle.worker_merges.proofs.slots.gather.Given as goal

abbrev pub invariant-loop-slot : goal.invariant-loop-slot
invariant-loop-slot l = record {
  count : vec_len l.ends + vec_len l.slots ≡ vec_len l.initial.slots;
  memory : vec_len l.ends + vec_len l.slots ≤ vec_capacity l.ends;
  ended : (room : Room) × All (HasEnded room) l.slots.items;
  each : (room : Room) → All (HasEnded room) l.initial.slots.items
      → All (HasEnded room) l.slots.items × AllByRecursion (IsWorkerEndOf room) l.ends.items;
}

abbrev pub decreases-loop-slot : goal.decreases-loop-slot
decreases-loop-slot l = vec_len l.slots
