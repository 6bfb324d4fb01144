-- What is known of workers at their places, and of the closing thread's side.
use Rattle.std.specs.Prelude.{◌≡◌, ◌⊎◌, ℕ, ◌+◌, ◌≤◌, [], length, All, vec_len, vec_capacity, Some}
use Rattle.merge_board.specs.Parts.{IsBoardIn, IsBoardEndIn, IsCollectorIn, IsCollectorEndIn, IsWorkerOf, IsWorkerEndOf}
use Rattle.merge_board.specs.Parts.{board_parts, board_end_parts, collector_parts, collector_end_parts, last_looks_of}
use Rattle.merge_board.specs.Work.{HasWorked}
use Rattle.merge_board.specs.declared.parts.Room.{Room}
use Rattle.merge_board.specs.declared.parts.Worker.{Worker}
use Rattle.merge_board.specs.declared.parts.WorkerEnd.{WorkerEnd}
use Rattle.worker_merges.specs.declared.slots.WorkerSlot.{WorkerSlot}
use Rattle.worker_merges.specs.declared.slots.Side.{Side}
use Rattle.worker_merges.specs.declared.slots.SideEnd.{SideEnd}
use Rattle.worker_merges.specs.declared.slots.Workshop.{Workshop}

-- a worker of the room is there
pub record IsManned (room : Room) (slot : WorkerSlot) : Type 0 where
  pub worker : Worker
  pub exists : slot.worker ≡ Some worker
  pub of : IsWorkerOf room worker

-- What is left of a worker of the room lies there. It worked until 64 of its outcomes found no slot, or until a look
-- that was begun after the board was closed found no job.
pub record HasEnded (room : Room) (slot : WorkerSlot) : Type 0 where
  pub end : WorkerEnd
  pub left : slot.end ≡ Some end
  pub of : IsWorkerEndOf room end
  pub worked : HasWorked end
  pub last : (vec_len end.left ≡ 64) ⊎ (1 ≤ last_looks_of end)

-- Of sixteen parts of each queue each worker of the room has one, and this side has the others.
pub record IsSideOf (room : Room) (workers : ℕ) (side : Side) : Type 0 where
  pub board : IsBoardIn room side.board
  pub board_has : board_parts side.board + workers ≡ 16
  pub collector : IsCollectorIn room side.collector
  pub collector_has : collector_parts side.collector + workers ≡ 16

pub record IsSideEndOf (room : Room) (workers : ℕ) (side : SideEnd) : Type 0 where
  pub board : IsBoardEndIn room side.board
  pub board_has : board_end_parts side.board + workers ≡ 16
  pub collector : IsCollectorEndIn room side.collector
  pub collector_has : collector_end_parts side.collector + workers ≡ 16

-- with this many workers
pub record IsWorkshop (workers : ℕ) (shop : Workshop) : Type 0 where
  pub side : IsSideOf shop.room workers shop.side
  pub count : length shop.slots.items ≡ workers
  pub manned : All (IsManned shop.room) shop.slots.items
  pub no_ends : shop.ends.items ≡ []
  pub memory : workers ≤ vec_capacity shop.ends
