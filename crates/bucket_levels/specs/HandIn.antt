-- What is drawn of pending merges, and what is handed in for them.
use Rattle.std.specs.Prelude.{◌≡◌, ◌≢◌, ℕ, ◌<◌, false, true, List, take, set, slice_get}
use Rattle.bucket_core.specs.File.{file_of}
use Rattle.bucket_merge.specs.Job.{Job}
use Rattle.bucket_levels.specs.Spills.{upper}
use Rattle.bucket_levels.specs.Pairs.{pair_at}
use Rattle.bucket_levels.specs.Step.{base_at}
use Rattle.bucket_levels.specs.Levels.{LevelsAt}
use Rattle.bucket_levels.specs.Pending.{PendingAt, pending_at, start_of, commit_of, IsPending}
use Rattle.bucket_levels.specs.declared.hand_in.HandInFault.{HandInFault}
use Rattle.bucket_levels.specs.declared.hand_in.HandInFault.TheVariants as fault

-- levels of which this is there of the merge into one
abbrev pub with_pending : (level : ℕ) → PendingAt → LevelsAt → LevelsAt
with_pending level merge l = record l { pending = set l.pending level merge }

-- ---- jobs

abbrev pub drawn : PendingAt → PendingAt
drawn merge = record merge { waits = false }

-- Of the jobs that wait the one of the first level is drawn.
pub record Draws (old : LevelsAt) (job : Job) (new : LevelsAt) : Type 0 where
  pub waited : (pending_at old.pending job.level).waits ≡ true
  pub first : (level : ℕ) → level < job.level → (pending_at old.pending level).waits ≡ false
  pub is : IsPending old.pairs old.seq job.level job
  pub left : new ≡ with_pending job.level (drawn (pending_at old.pending job.level)) old

abbrev pub NoneWaits : LevelsAt → Type 0
NoneWaits l = (level : ℕ) → (pending_at l.pending level).waits ≡ false

-- ---- outcomes

abbrev pub handed_in : PendingAt → PendingAt
handed_in merge = record merge { ready = true }

-- An outcome is ready where it is that of the merge that is pending into its level.
pub record TakesIn (old : LevelsAt) (out : Job) (new : LevelsAt) : Type 0 where
  pub is : IsPending old.pairs old.seq out.level out
  pub left : new ≡ with_pending out.level (handed_in (pending_at old.pending out.level)) old

-- two texts are one up to an offset, and there they differ, or one of them ends
pub record DifferAt (at : ℕ) (xs ys : List ℕ) : Type 0 where
  pub before : take at xs ≡ take at ys
  pub apart : slice_get xs at ≢ slice_get ys at

-- why an outcome isn't that one: it began at another ledger, or an input has another file
abbrev pub IsRefusedFor : LevelsAt → Job → HandInFault → Type 0
IsRefusedFor l out (fault.StaleMerge level given due) =
    (level ≡ out.level) × (given ≡ out.seq) × (due ≡ start_of level l.seq) × (given ≢ due)
IsRefusedFor l out (fault.WrongInputs level false at) =
    (level ≡ out.level) × (out.seq ≡ start_of level l.seq)
    × DifferAt at (file_of (base_at (commit_of level l.seq) l.pairs level)) (file_of out.curr)
IsRefusedFor l out (fault.WrongInputs level true at) =
    (level ≡ out.level) × (out.seq ≡ start_of level l.seq)
    × (out.curr ≡ base_at (commit_of level l.seq) l.pairs level)
    × DifferAt at (file_of (pair_at l.pairs (upper level)).snap) (file_of out.snap)
