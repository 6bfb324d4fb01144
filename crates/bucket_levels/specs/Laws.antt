-- The law of what the levels represent.
use Rattle.std.specs.Prelude.{◌≡◌, ℕ, List, length}
use Rattle.entry_map.specs.EntryMap.{EntryMap}
use Rattle.bucket_core.specs.Bucket.{Contents}
use Rattle.bucket_levels.specs.Spills.{level_count}
use Rattle.bucket_levels.specs.Pairs.{Pair}
use Rattle.bucket_levels.specs.Step.{IsStep}
use Rattle.bucket_levels.specs.Meaning.{Represent, AreWellMarked}
use Rattle.bucket_levels.specs.Fresh.{IsFresh}

-- Levels that represent the entries before a close represent those after it once they took its fresh bucket, and are
-- well marked again.
abbrev pub StepsRepresent : Type 0
StepsRepresent = (seq : ℕ) (fresh : Contents) (old new : List Pair) (before after : EntryMap) → length old ≡ level_count
    → AreWellMarked old → Represent old before → IsFresh before after fresh → IsStep seq fresh old new
    → AreWellMarked new × Represent new after
