-- What is known of the parts of a room.
use Rattle.std.specs.Prelude.{◌≡◌, ℕ, ◌+◌, List, [], ◌∷◌, ◌++◌, length, map}
use Rattle.counted_queue.specs.Seats as seats
use seats.{view, IsSeatOf}
use Rattle.std.specs.List.{AllByRecursion}
use Rattle.merge_board.specs.OutOrder.{outs_of}
use Rattle.merge_board.specs.declared.log.Sent.{Sent}
use Rattle.merge_board.specs.declared.parts.Parts.{Parts}
use Rattle.merge_board.specs.declared.parts.Room.{Room}
use Rattle.merge_board.specs.declared.parts.Board.{Board}
use Rattle.merge_board.specs.declared.parts.BoardEnd.{BoardEnd}
use Rattle.merge_board.specs.declared.parts.Worker.{Worker}
use Rattle.merge_board.specs.declared.parts.WorkerEnd.{WorkerEnd}
use Rattle.merge_board.specs.declared.parts.Collector.{Collector}
use Rattle.merge_board.specs.declared.parts.CollectorEnd.{CollectorEnd}
use Rattle.merge_board.specs.declared.posted.PostedJob.{PostedJob}

-- ---- what the parts record

-- how many jobs the board has posted
abbrev pub posted_by : Board → ℕ
posted_by board = (view board.seat).posted

abbrev pub posted_in_all : BoardEnd → ℕ
posted_in_all end = (view end.seat).posted

-- how many jobs came back to it: one for each answer of the queue that it was full
abbrev pub returned_to : Board → ℕ
returned_to board = length (seats.refused_of board.seat)

-- how often the collector found no outcome: once for each answer of the queue that it was empty
abbrev pub empty_looks_of : Collector → ℕ
empty_looks_of collector = seats.empty_looks_of collector.seat

-- a worker's number among the workers of its room
abbrev pub number_of : Worker → ℕ
number_of worker = worker.seats.number

abbrev pub end_number : WorkerEnd → ℕ
end_number end = end.seats.number

-- the jobs that a worker took
abbrev pub taken_by : WorkerEnd → List PostedJob
taken_by end = (view end.seats.jobs).taken

-- the outcomes that a worker pushed
abbrev pub pushed_by : WorkerEnd → List PostedJob
pushed_by end = (view end.seats.outs).pushed

-- the outcomes that it pushed in vain, one for each answer of the queue that it was full
abbrev pub refused_of : WorkerEnd → List PostedJob
refused_of end = map (λ (s : Sent). s.out) (seats.refused_of end.seats.outs)

-- the jobs that it gave up, one for each merge that was handed back since memory was refused to it
abbrev pub given_up_by : WorkerEnd → List PostedJob
given_up_by end = end.seats.given_up

-- how often it found no job: once for each answer of the queue that it was empty
abbrev pub looks_of : WorkerEnd → ℕ
looks_of end = seats.empty_looks_of end.seats.jobs

-- how many of these looks were begun after the closing mark was set
abbrev pub last_looks_of : WorkerEnd → ℕ
last_looks_of end = seats.last_looks_of end.seats.jobs

-- the outcomes that were collected, with their workers
abbrev pub collected_by : Collector → List Sent
collected_by collector = (view collector.seat).got

abbrev pub collected_in_all : CollectorEnd → List Sent
collected_in_all end = (view end.seat).got

-- ---- parts of one room

-- the seats are at this room's queues
abbrev pub IsBoardIn : Room → Board → Type 0
IsBoardIn room board = IsSeatOf room.jobs board.seat

abbrev pub IsBoardEndIn : Room → BoardEnd → Type 0
IsBoardEndIn room end = IsSeatOf room.jobs end.seat

abbrev pub IsCollectorIn : Room → Collector → Type 0
IsCollectorIn room collector = IsSeatOf room.outs collector.seat

abbrev pub IsCollectorEndIn : Room → CollectorEnd → Type 0
IsCollectorEndIn room end = IsSeatOf room.outs end.seat

pub record IsWorkerOf (room : Room) (worker : Worker) : Type 0 where
  pub jobs : IsSeatOf room.jobs worker.seats.jobs
  pub outs : IsSeatOf room.outs worker.seats.outs

pub record IsWorkerEndOf (room : Room) (end : WorkerEnd) : Type 0 where
  pub jobs : IsSeatOf room.jobs end.seats.jobs
  pub outs : IsSeatOf room.outs end.seats.outs

-- Of sixteen parts of a queue each worker has one, and these have the others. So they say how many workers there are.
abbrev pub board_parts : Board → ℕ
board_parts board = (view board.seat).parts

abbrev pub board_end_parts : BoardEnd → ℕ
board_end_parts end = (view end.seat).parts

abbrev pub collector_parts : Collector → ℕ
collector_parts collector = (view collector.seat).parts

abbrev pub collector_end_parts : CollectorEnd → ℕ
collector_end_parts end = (view end.seat).parts

-- ---- what is made and what is settled

-- the numbers of workers are from, from + 1 and so on
abbrev pub AreNumbered : (from : ℕ) → List Worker → Type 0
AreNumbered from [] = Unit {0}
AreNumbered from (worker ∷ others) = (number_of worker ≡ from) × AreNumbered (from + 1) others

-- Nothing was posted and nothing was collected.
pub record AreParts (workers : ℕ) (parts : Parts) : Type 0 where
  pub board : IsBoardIn parts.room parts.board
  pub board_has : board_parts parts.board + workers ≡ 16
  pub count : length parts.workers.items ≡ workers
  pub each : AllByRecursion (IsWorkerOf parts.room) parts.workers.items
  pub numbers : AreNumbered 0 parts.workers.items
  pub collector : IsCollectorIn parts.room parts.collector
  pub collector_has : collector_parts parts.collector + workers ≡ 16
  pub none_posted : posted_by parts.board ≡ 0
  pub none_collected : collected_by parts.collector ≡ []

-- These are the ends of all parts of the room.
pub record AreEnds (room : Room) (board : BoardEnd) (workers : List WorkerEnd) (collector : CollectorEnd) : Type 0 where
  pub board_in : IsBoardEndIn room board
  pub board_has : board_end_parts board + length workers ≡ 16
  pub each : AllByRecursion (IsWorkerEndOf room) workers
  pub collector_in : IsCollectorEndIn room collector
  pub collector_has : collector_end_parts collector + length workers ≡ 16

-- After what was collected come, with their workers, the outcomes that are queued. In all of these each worker's are
-- what it pushed, in its order, each once and unaltered.
pub record KeepsOrder (got : List Sent) (queued : List PostedJob) (ends : List WorkerEnd) : Type 0 where
  pub rest : List Sent
  pub queue : map (λ (s : Sent). s.out) rest ≡ queued
  pub each : AllByRecursion (λ (end : WorkerEnd). outs_of (end_number end) (got ++ rest) ≡ pushed_by end) ends

-- the list has grown by this outcome, of some worker
abbrev pub Grew : List Sent → PostedJob → List Sent → Type 0
Grew old out new = (worker : ℕ) × (new ≡ old ++ record { worker = worker; out = out } ∷ [])
