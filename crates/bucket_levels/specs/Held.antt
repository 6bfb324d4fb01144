-- What levels and a step keep of the merges that are pending.
use Rattle.std.specs.Prelude.{◌≡◌, ◌≤◌, ◌<◌, ℕ, Bool, true, false, List, Option, Some, None, is_some, get_or, length}
use Rattle.bucket_core.specs.Bucket.{Contents}
use Rattle.bucket_merge.specs.Job.{Job}
use Rattle.bucket_merge.specs.Merge.{IsMerge}
use Rattle.bucket_levels.specs.Spills.{level_count}
use Rattle.bucket_levels.specs.EachLevel.{EachLevel}
use Rattle.bucket_levels.specs.Pairs.{Pair}
use Rattle.bucket_levels.specs.Levels.{LevelsAt}
use Rattle.bucket_levels.specs.Pending.{PendingAt, undrawn_at, IsPending, renews}
use Rattle.bucket_levels.specs.declared.pending.PendingMerge.{PendingMerge}

abbrev pub pending_of : PendingMerge → PendingAt
pending_of merge = record { waits = is_some merge.job; ready = is_some merge.ready }

abbrev pub nothing_pending : PendingMerge
nothing_pending = record { job = None; ready = None }

-- a job that waits and an outcome that is ready are those of the merge that is pending into their level
pub record IsHeld (pairs : List Pair) (seq level : ℕ) (merge : PendingMerge) : Type 0 where
  pub job : (job : Job) → merge.job ≡ Some job → IsPending pairs seq level job
  pub ready : (out : Job) → merge.ready ≡ Some out → IsPending pairs seq level out

abbrev pub AreHeld : List Pair → (seq : ℕ) → List PendingMerge → Type 0
AreHeld pairs seq merges = EachLevel nothing_pending (IsHeld pairs seq) level_count merges

-- no job of the first levels waits
abbrev pub NoneWaitsAbove : List PendingMerge → (level : ℕ) → Type 0
NoneWaitsAbove merges level = (i : ℕ) → i < level → is_some (get_or merges i nothing_pending).job ≡ false

pub record IsFirstWaiting (merges : List PendingMerge) (level : ℕ) : Type 0 where
  pub within : level < length merges
  pub waits : is_some (get_or merges level nothing_pending).job ≡ true
  pub first : NoneWaitsAbove merges level

-- the outcome that is ready of the merge that is pending into a level
pub record IsReadyFor (l : LevelsAt) (level : ℕ) (bucket : Contents) : Type 0 where
  pub out : Job
  pub is : IsPending l.pairs l.seq level out
  pub merge : IsMerge out.level out.curr out.snap bucket

-- ---- before a job is drawn

pub record IsUndrawn (pairs : List Pair) (seq level : ℕ) (merge : PendingMerge) : Type 0 where
  pub held : IsHeld pairs seq level merge
  pub known : pending_of merge ≡ undrawn_at level

abbrev pub AreUndrawn : List Pair → (seq : ℕ) → (count : ℕ) → List PendingMerge → Type 0
AreUndrawn pairs seq count merges = EachLevel nothing_pending (IsUndrawn pairs seq) count merges

-- ---- after a step

-- the job of a merge that begins, and none elsewhere
abbrev pub IsJobIf : Bool → List Pair → (seq level : ℕ) → Option Job → Type 0
IsJobIf true pairs seq level (Some job) = IsPending pairs seq level job
IsJobIf true pairs seq level None = ⊥
IsJobIf false pairs seq level (Some job) = ⊥
IsJobIf false pairs seq level None = Unit {0}

abbrev pub IsBegun : List Pair → (seq level : ℕ) → Option Job → Type 0
IsBegun pairs seq level job = IsJobIf (renews level seq) pairs seq level job

-- the jobs of the merges that begin with a step that leaves these files
abbrev pub AreBegun : List Pair → (seq : ℕ) → (count : ℕ) → List (Option Job) → Type 0
AreBegun pairs seq count jobs = EachLevel None (IsBegun pairs seq) count jobs

-- a merge that begins takes the place of the one before it
abbrev pub renewed : Option Job → PendingMerge → PendingMerge
renewed None merge = merge
renewed (Some job) merge = record { job = Some job; ready = None }

abbrev pub AllRenewed : List (Option Job) → (old new : List PendingMerge) → Type 0
AllRenewed jobs old new = EachLevel nothing_pending
    (λ level merge. merge ≡ renewed (get_or jobs level None) (get_or old level nothing_pending)) level_count new

-- the same, as far as the first levels
pub record AreRenewedTo (jobs : List (Option Job)) (old : List PendingMerge) (level : ℕ) (left : List (Option Job))
    (new : List PendingMerge) : Type 0 where
  pub jobs_count : length left ≡ level_count
  pub count : length new ≡ level_count
  pub done : (i : ℕ) → i < level
      → get_or new i nothing_pending ≡ renewed (get_or jobs i None) (get_or old i nothing_pending)
  pub ahead : (i : ℕ) → level ≤ i → get_or new i nothing_pending ≡ get_or old i nothing_pending
  pub jobs_ahead : (i : ℕ) → level ≤ i → get_or left i None ≡ get_or jobs i None
