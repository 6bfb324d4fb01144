-- What is known while a room is settled.
use Rattle.std.specs.Prelude.{◌≡◌, ℕ, ◌+◌, ◌≤◌, true, List, ◌++◌, length, map}
use Rattle.std.specs.List.{sum_by}
use Rattle.counted_queue.specs.Seats.{view}
use Rattle.merge_board.specs.Hands.{drawn}
use Rattle.merge_board.specs.Logs.{pushed_count, known_of}
use Rattle.merge_board.specs.declared.hand.Hand.{Hand}
use Rattle.merge_board.specs.declared.log.Sent.{Sent}
use Rattle.merge_board.specs.declared.log.Known.{Known}
use Rattle.merge_board.specs.declared.log.Log.{Log}
use Rattle.merge_board.specs.declared.parts.WorkerEnd.{WorkerEnd}
use Rattle.merge_board.specs.declared.posted.PostedJob.{PostedJob}

-- what is known of a worker whose pass was taken in
abbrev pub end_known : WorkerEnd → Known
end_known end = known_of (view end.seats.outs)

-- Of all workers' passes those of `rest` are not yet taken in. The board's pass knows how many jobs the others took,
-- and the collector's what they pushed.
pub record AreTakenIn (all rest : List WorkerEnd) (old_hand hand : Hand) (old_log log : Log) (taken pushed : ℕ)
    : Type 0 where
  pub done : List WorkerEnd
  pub split : all ≡ rest ++ done
  pub posts : hand.posts ≡ true
  pub posted : hand.posted ≡ old_hand.posted
  pub job_parts : hand.parts + length rest ≡ 16
  pub all_taken : drawn hand ≡ taken
  pub collects : log.collects ≡ true
  pub got : log.got ≡ old_log.got
  pub out_parts : log.parts + length rest ≡ 16
  pub all_pushed : pushed_count log ≡ pushed
  pub known_ends : log.known ≡ map end_known done
  pub taken_sum : taken ≡ sum_by (λ (end : WorkerEnd). end.taken) done
  pub pushed_sum : pushed ≡ sum_by (λ (end : WorkerEnd). end.pushed) done
  -- so that their sum fits where that of the jobs does
  pub fewer : pushed ≤ taken

-- the collector's pass has collected these too
pub record IsDrained (old new : Log) (queued : List PostedJob) : Type 0 where
  pub rest : List Sent
  pub queue : map (λ (s : Sent). s.out) rest ≡ queued
  pub log : new ≡ record old { got = old.got ++ rest }
