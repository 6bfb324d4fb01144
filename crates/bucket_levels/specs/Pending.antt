-- The merges that are pending into the levels from 1 to 10 (FutureBucket in stellar-core).
use Rattle.std.specs.Prelude.{◌≡◌, ℕ, zero, suc, ◌+◌, ◌-◌, ◌%◌, ◌≤◌, Bool, false, true, List, get_or, if◌then◌else◌}
use Rattle.std.specs.Prelude.{refl}
use Rattle.std.specs.Coded.{Coded, code_by, coded_bool, coded×}
use Rattle.bucket_merge.specs.Job.{Job}
use Rattle.bucket_levels.specs.Spills.{level_count, half, upper, spills}
use Rattle.bucket_levels.specs.EachLevel.{EachLevel}
use Rattle.bucket_levels.specs.Pairs.{Pair, pair_at}
use Rattle.bucket_levels.specs.Step.{base_at}

-- when the merge that is pending into a level began: as the level above spilled last, or at 0
abbrev pub start_of : (level seq : ℕ) → ℕ
start_of level seq = seq - seq % half (upper level)

-- when it is committed: as that one spills next
abbrev pub commit_of : (level seq : ℕ) → ℕ
commit_of level seq = start_of level seq + half (upper level)

-- It goes into the curr onto which it is committed, and takes in the snap of the level above. Both stay until then.
pub record IsPending (pairs : List Pair) (seq level : ℕ) (job : Job) : Type 0 where
  pub deep : 1 ≤ level
  pub into : job.level ≡ level
  pub start : job.seq ≡ start_of level seq
  pub curr : job.curr ≡ base_at (commit_of level seq) pairs level
  pub snap : job.snap ≡ (pair_at pairs (upper level)).snap

-- ---- what is there of it

-- whether its job waits to be drawn, and whether its outcome is ready
pub record PendingAt : Type 0 where
  pub waits : Bool
  pub ready : Bool

abbrev pub pending_code : Coded PendingAt
pending_code = code_by (Bool × Bool) (coded× coded_bool coded_bool) (λ p. (p.waits, p.ready))
    (λ (waits, ready). record { waits = waits; ready = ready }) (λ _. refl)

-- there is none into level 0
abbrev pub not_pending : PendingAt
not_pending = record { waits = false; ready = false }

-- one that has just begun
abbrev pub begun : PendingAt
begun = record { waits = true; ready = false }

-- of each level as nothing was drawn
abbrev pub undrawn_at : (level : ℕ) → PendingAt
undrawn_at zero = not_pending
undrawn_at (suc above) = begun

abbrev pub pending_at : List PendingAt → (level : ℕ) → PendingAt
pending_at pending level = get_or pending level not_pending

-- nothing was drawn or handed in
abbrev pub AreUndrawnAt : List PendingAt → Type 0
AreUndrawnAt pending = EachLevel not_pending (λ level merge. merge ≡ undrawn_at level) level_count pending

-- ---- after a step

-- whether a step commits the merge into a level and begins the next one
abbrev pub renews : (level seq : ℕ) → Bool
renews zero seq = false
renews (suc above) seq = spills above seq

-- what a step leaves of each
abbrev pub AreRenewed : (seq : ℕ) → (old new : List PendingAt) → Type 0
AreRenewed seq old new = EachLevel not_pending
    (λ level merge. merge ≡ (if renews level seq then begun else pending_at old level)) level_count new
