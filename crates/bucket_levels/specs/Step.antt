-- What a close does to the levels, all at once from the old files (BucketList::addBatch in stellar-core).
use Rattle.std.specs.Prelude.{◌≡◌, ℕ, zero, suc, ◌<◌, Bool, true, false, List, length, None, if◌then◌else◌}
use Rattle.bucket_core.specs.Bucket.{Contents}
use Rattle.bucket_merge.specs.Merge.{IsMerge}
use Rattle.bucket_levels.specs.Spills.{level_count, spills}
use Rattle.bucket_levels.specs.Pairs.{Pair, pair_at}

-- what is merged onto in a level: nothing where the level spills, since its curr has become its snap
abbrev pub base_at : (seq : ℕ) → List Pair → ℕ → Contents
base_at seq pairs i = if spills i seq then None else (pair_at pairs i).curr

-- the snap of a level that spills is its curr
abbrev pub snap_after : (seq : ℕ) → List Pair → ℕ → Contents
snap_after seq pairs i = if spills i seq then (pair_at pairs i).curr else (pair_at pairs i).snap

-- a new curr is the merge into a level, or what it was
abbrev pub IsMergedIf : Bool → (level : ℕ) → (older newer was new : Contents) → Type 0
IsMergedIf true level older newer was new = IsMerge level older newer new
IsMergedIf false level older newer was new = new ≡ was

-- The first level takes the fresh bucket, and each other one the snap of the level above it, where that one spills.
abbrev pub IsCurrAfter : (seq : ℕ) → (fresh : Contents) → List Pair → ℕ → Contents → Type 0
IsCurrAfter seq fresh old zero new = IsMerge 0 (base_at seq old 0) fresh new
IsCurrAfter seq fresh old (suc i) new =
    IsMergedIf (spills i seq) (suc i) (base_at seq old (suc i)) (pair_at old i).snap (pair_at old (suc i)).curr new

pub record IsPairAfter (seq : ℕ) (fresh : Contents) (old : List Pair) (i : ℕ) (new : Pair) : Type 0 where
  pub curr : IsCurrAfter seq fresh old i new.curr
  pub snap : new.snap ≡ snap_after seq old i

-- the levels after a ledger that closed with a fresh bucket
pub record IsStep (seq : ℕ) (fresh : Contents) (old new : List Pair) : Type 0 where
  pub count : length new ≡ level_count
  pub pairs : (i : ℕ) → i < level_count → IsPairAfter seq fresh old i (pair_at new i)
