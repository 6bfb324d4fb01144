-- What is known of a worker, at work and afterwards.
use Rattle.std.specs.Prelude.{◌≡◌, ◌≢◌, ◌⊎◌, ℕ, ◌+◌, ◌<◌, ◌≤◌, List, [], ◌∷◌, ◌++◌, length, map, vec_len}
use Rattle.std.specs.Prelude.{vec_capacity, Option, MatchOption}
use Rattle.std.specs.declared.sync.OnceToken.{OnceToken}
use Rattle.counted_queue.specs.Seats as seats
use seats.{view, mark_of, IsSeatOf}
use Rattle.std.specs.List.{AllByRecursion}
use Rattle.merge_board.specs.Lists.{IsRising, Has}
use Rattle.merge_board.specs.Hands.{new_hand, numbers_of}
use Rattle.merge_board.specs.Logs.{new_log}
use Rattle.merge_board.specs.Parts.{taken_by, pushed_by, given_up_by, refused_of, last_looks_of}
use Rattle.merge_board.specs.declared.desk.Desk.{Desk}
use Rattle.merge_board.specs.declared.log.Sent.{Sent}
use Rattle.merge_board.specs.declared.parts.Room.{Room}
use Rattle.merge_board.specs.declared.parts.WorkerEnd.{WorkerEnd}
use Rattle.merge_board.specs.declared.posted.PostedJob.{PostedJob}

-- no number is in both
abbrev pub AreApart : List PostedJob → List PostedJob → Type 0
AreApart xs ys = AllByRecursion (λ n. AllByRecursion (λ m. n ≢ m) (numbers_of ys)) (numbers_of xs)

-- How the jobs that a worker took relate to the outcomes that it pushed, to those that it has left and to the merges
-- that it gave up: these are jobs that it took, their numbers rise, and no number is in two of the three.
pub record AreDealt (taken pushed left given_up : List PostedJob) : Type 0 where
  pub rising : IsRising (numbers_of taken)
  pub pushed_rise : IsRising (numbers_of pushed)
  pub left_rise : IsRising (numbers_of left)
  pub given_up_rise : IsRising (numbers_of given_up)
  pub pushed_taken : AllByRecursion (Has taken) pushed
  pub left_taken : AllByRecursion (Has taken) left
  pub given_up_taken : AllByRecursion (Has taken) given_up
  pub pushed_left : AreApart pushed left
  pub pushed_given_up : AreApart pushed given_up
  pub left_given_up : AreApart left given_up

-- a worker of this room, which has as many jobs in hand as `held`
pub record IsAtWork (room : Room) (held : ℕ) (desk : Desk) : Type 0 where
  pub jobs : IsSeatOf room.jobs desk.seats.jobs
  pub outs : IsSeatOf room.outs desk.seats.outs
  pub hand : view desk.seats.jobs ≡ record new_hand { taken = (view desk.seats.jobs).taken }
  pub log : view desk.seats.outs ≡ record (new_log desk.seats.number) { pushed = (view desk.seats.outs).pushed }
  pub taken : length (view desk.seats.jobs).taken ≡ desk.taken
  pub pushed : length (view desk.seats.outs).pushed ≡ desk.pushed
  pub accounted : desk.taken ≡ desk.pushed + length desk.seats.given_up + vec_len desk.left + held
  -- left is just what found no slot
  pub left : desk.left.items ≡ map (λ (s : Sent). s.out) (seats.refused_of desk.seats.outs)
  pub slots : 64 ≤ vec_capacity desk.left

abbrev pub IsDealt : Desk → Type 0
IsDealt desk =
    AreDealt (view desk.seats.jobs).taken (view desk.seats.outs).pushed desk.left.items desk.seats.given_up

-- The job was taken last: its number is above those of all that became of the others.
pub record HasInHand (desk : Desk) (job : PostedJob) : Type 0 where
  pub dealt : IsDealt desk
  pub taken : Has (view desk.seats.jobs).taken job
  pub above_pushed : AllByRecursion (λ n. n < job.number) (numbers_of (view desk.seats.outs).pushed)
  pub above_left : AllByRecursion (λ n. n < job.number) (numbers_of desk.left.items)
  pub above_given_up : AllByRecursion (λ n. n < job.number) (numbers_of desk.seats.given_up)

-- The outcome was pushed, or it is left because there was no slot for it.
abbrev pub IsHandedOut : Desk → PostedJob → Desk → Type 0
IsHandedOut old out new =
    (((view new.seats.outs).pushed ≡ (view old.seats.outs).pushed ++ out ∷ []) × (new.left.items ≡ old.left.items))
    ⊎ (((view new.seats.outs).pushed ≡ (view old.seats.outs).pushed)
    × (new.left.items ≡ old.left.items ++ out ∷ []))

-- Why a worker stops: it has left 64 outcomes, or the token shows that the closing mark was set, and a look that was
-- begun after that found no job.
abbrev pub StopsFor : Room → Desk → Option (OnceToken (Unit {0})) → Type 0
StopsFor room desk last = MatchOption last (vec_len desk.left ≡ 64)
    (λ token. (token.of ≡ mark_of room.jobs) × (1 ≤ seats.last_looks_of desk.seats.jobs))

-- what is known of a worker that has ended
pub record HasWorked (end : WorkerEnd) : Type 0 where
  pub accounted : end.taken ≡ end.pushed + end.given_up + vec_len end.left
  pub taken : length (taken_by end) ≡ end.taken
  pub pushed : length (pushed_by end) ≡ end.pushed
  pub given_up : length (given_up_by end) ≡ end.given_up
  -- left is just what it pushed in vain
  pub left : end.left.items ≡ refused_of end
  pub dealt : AreDealt (taken_by end) (pushed_by end) end.left.items (given_up_by end)

-- why a worker ended
abbrev pub EndsFor : Room → WorkerEnd → Option (OnceToken (Unit {0})) → Type 0
EndsFor room end last = MatchOption last (vec_len end.left ≡ 64)
    (λ token. (token.of ≡ mark_of room.jobs) × (1 ≤ last_looks_of end))
