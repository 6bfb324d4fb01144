-- How many items the merges of a step go over: none where the outcome is ready.
use Rattle.std.specs.Prelude.{ℕ, zero, suc, ◌+◌, ◌&&◌, not, if◌then◌else◌}
use Rattle.bucket_core.specs.Bucket.{Contents}
use Rattle.bucket_core.specs.File.{count_of}
use Rattle.bucket_levels.specs.Spills.{level_count, spills}
use Rattle.bucket_levels.specs.Pairs.{pair_at}
use Rattle.bucket_levels.specs.Step.{base_at}
use Rattle.bucket_levels.specs.Levels.{LevelsAt}
use Rattle.bucket_levels.specs.Pending.{pending_at}

abbrev pub work_at : (seq : ℕ) → (fresh : Contents) → LevelsAt → ℕ → ℕ
work_at seq fresh l zero = count_of (base_at seq l.pairs 0) + count_of fresh
work_at seq fresh l (suc i) =
    if spills i seq && not (pending_at l.pending (suc i)).ready
    then count_of (base_at seq l.pairs (suc i)) + count_of (pair_at l.pairs i).snap else 0

-- the levels above one
unfoldable pub work_above : (seq : ℕ) → (fresh : Contents) → LevelsAt → ℕ → ℕ
work_above seq fresh l zero = 0
work_above seq fresh l (suc i) = work_above seq fresh l i + work_at seq fresh l i

abbrev pub work : (seq : ℕ) → (fresh : Contents) → LevelsAt → ℕ
work seq fresh l = work_above seq fresh l level_count
