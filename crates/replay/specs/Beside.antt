-- What is known of a run beside workers.
use Rattle.std.specs.Prelude.{◌≡◌, ℕ, Option, Some}
use Rattle.merge_board.specs.declared.parts.Room.{Room}
use Rattle.worker_merges.specs.WorkerSlots.{IsSideOf}
use Rattle.worker_merges.specs.declared.slots.Side.{Side}

-- the closing thread's side of this room is there
pub record HasSide (room : Room) (workers : ℕ) (there : Option Side) : Type 0 where
  pub side : Side
  pub is : there ≡ Some side
  pub of : IsSideOf room workers side
