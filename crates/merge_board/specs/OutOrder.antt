-- The rule of the done queue: of each worker, what was collected and then what is queued is what it pushed, in its
-- order.
use Rattle.std.specs.Prelude.{◌≡◌, ◌≢◌, ℕ, ◌+◌, ◌<◌, ◌≤◌, ◌==◌, true, List, [], ◌++◌, length, map}
use Rattle.std.specs.List.{AllByRecursion, sum_by, filter}
use mathlib.Core.Option.{some}
use lib.ListN.{get_elem?}
use Rattle.merge_board.specs.Logs.{pushed_count}
use Rattle.merge_board.specs.declared.log.Sent.{Sent}
use Rattle.merge_board.specs.declared.log.Known.{Known}
use Rattle.merge_board.specs.declared.log.Log.{Log}
use Rattle.merge_board.specs.declared.posted.PostedJob.{PostedJob}

-- the outcomes that a worker sent, in their order
abbrev pub outs_of : ℕ → List Sent → List PostedJob
outs_of worker sent = map (λ (s : Sent). s.out) (filter (λ (s : Sent). s.worker == worker) sent)

-- What was collected, and then what the queue holds, has of each worker that has ended what it pushed. Where all have
-- ended, there is nothing else in it.
pub record Accounts (v : Log) (items : List Sent) : Type 0 where
  pub ended : AllByRecursion (λ (k : Known). outs_of k.worker (v.got ++ items) ≡ k.pushed) v.known
  pub entire : v.parts ≡ 16 → pushed_count v ≡ length v.got + length items

-- what holds of a pass, where `owners` has the pass of each worker, by its number
pub record FitsLog (owners : List ℕ) (known : List Known) (got all : List Sent) (pass : ℕ) (v : Log) : Type 0 where
  pub collector : v.collects ≡ true
      → (pass ≡ 0) × (v.got ≡ got) × (v.known ≡ known) × (v.made ≡ length owners)
  pub worker : v.pushes ≡ true
      → (get_elem? owners v.worker ≡ some pass) × (outs_of v.worker all ≡ v.pushed)
      × AllByRecursion (λ (k : Known). k.worker ≢ v.worker) known
  -- a pass that was taken in knows nothing any more
  pub idle : v.parts ≡ 0 → pushed_count v ≡ 0

pub record OutsInOrder (items : List Sent) (views : List Log) : Type 0 where
  -- the pass of each worker, what those pushed that have ended, what was collected, and what was sent in all
  pub owners : List ℕ
  pub known : List Known
  pub got : List Sent
  pub all : List Sent
  pub entire : all ≡ got ++ items
  pub later : (worker : ℕ) → length owners ≤ worker → outs_of worker all ≡ []
  pub ended : AllByRecursion (λ (k : Known). (k.worker < length owners) × (outs_of k.worker all ≡ k.pushed)) known
  pub pushed_in_all : sum_by pushed_count views ≡ length all
  -- who has all parts knows that no other pass has pushed anything
  pub parts_in_all : sum_by (λ (v : Log). v.parts) views ≡ 16
  pub each : (pass : ℕ) (v : Log) → get_elem? views pass ≡ some v → FitsLog owners known got all pass v
