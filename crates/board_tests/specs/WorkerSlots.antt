-- What is known of the places of workers and of the front.
use Rattle.std.specs.Prelude.{◌≡◌, ℕ, ◌+◌, IfSome}
use Rattle.merge_board.specs.Parts.{IsBoardIn, IsBoardEndIn, IsCollectorIn, IsWorkerOf, IsWorkerEndOf, board_parts}
use Rattle.merge_board.specs.Parts.{board_end_parts, collector_parts}
use Rattle.merge_board.specs.declared.parts.Room.{Room}
use Rattle.board_tests.specs.declared.slots.WorkerSlot.{WorkerSlot}
use Rattle.board_tests.specs.declared.slots.ClosingSide.{ClosingSide}

-- a worker of this room, or what is left of one
pub record IsSlotIn (room : Room) (slot : WorkerSlot) : Type 0 where
  pub worker : IfSome slot.worker (IsWorkerOf room)
  pub end : IfSome slot.end (IsWorkerEndOf room)

-- the board or what is left of it, and the collector, of this room
pub record IsSideOf (room : Room) (side : ClosingSide) : Type 0 where
  pub board : IfSome side.board (λ b. IsBoardIn room b × (board_parts b + side.workers ≡ 16))
  pub board_end : IfSome side.board_end (λ b. IsBoardEndIn room b × (board_end_parts b + side.workers ≡ 16))
  pub collector_in : IsCollectorIn room side.collector
  pub collector_has : collector_parts side.collector + side.workers ≡ 16
