-- The rule of the job queue: it holds, in order, the jobs that were posted and not taken.
use Rattle.std.specs.Prelude.{◌≡◌, ℕ, ◌+◌, ◌<◌, ◌≤◌, ◌^◌, true, List, [], ◌∷◌, length}
use Rattle.std.specs.List.{AllByRecursion, sum_by}
use mathlib.Core.Option.{some}
use lib.ListN.{get_elem?}
use Rattle.merge_board.specs.Lists.{IsRising}
use Rattle.merge_board.specs.Hands.{drawn, numbers_of}
use Rattle.merge_board.specs.declared.hand.Hand.{Hand}
use Rattle.merge_board.specs.declared.posted.PostedJob.{PostedJob}

-- the numbers t + 1, t + 2, and so on
abbrev pub NumbersAfter : ℕ → List PostedJob → Type 0
NumbersAfter t [] = Unit {0}
NumbersAfter t (job ∷ jobs) = (job.number ≡ t + 1) × NumbersAfter (t + 1) jobs

-- what holds of a pass where p jobs were posted and t were taken
pub record FitsHand (p t pass : ℕ) (v : Hand) : Type 0 where
  pub poster : v.posts ≡ true → (pass ≡ 0) × (v.posted ≡ p)
  pub rising : IsRising (numbers_of v.taken)
  pub below : AllByRecursion (λ n. n ≤ t) (numbers_of v.taken)
  -- a pass that was taken in knows nothing any more
  pub idle : v.parts ≡ 0 → drawn v ≡ 0

pub record JobsInOrder (jobs : List PostedJob) (views : List Hand) : Type 0 where
  -- how many jobs were posted, and how many were taken
  pub p : ℕ
  pub t : ℕ
  pub count : t + length jobs ≡ p
  pub numbers : NumbersAfter t jobs
  pub countable : p < 2 ^ 64
  pub drawn_in_all : sum_by drawn views ≡ t
  -- who has all parts knows that no other pass has taken a job
  pub parts_in_all : sum_by (λ (v : Hand). v.parts) views ≡ 16
  pub each : (pass : ℕ) (v : Hand) → get_elem? views pass ≡ some v → FitsHand p t pass v
