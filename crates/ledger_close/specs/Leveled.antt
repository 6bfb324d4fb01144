-- The levels after a close.
use Rattle.std.specs.Prelude.{◌≡◌, ◌+◌, ℕ, Some}
use Rattle.entry_map.specs.EntryMap.{EntryMap}
use Rattle.bucket_core.specs.Bucket.{Contents, version_of}
use Rattle.bucket_levels.specs.Fresh.{IsFresh}
use Rattle.bucket_levels.specs.Levels.{LevelsAfter}
use Rattle.bucket_levels.specs.Step.{IsStep}
use Rattle.close_rules.specs.State.{ClosingState}

-- the levels made a step with the bucket of what changed up to these entries
pub record IsLeveled (s : ClosingState) (version : ℕ) (after : EntryMap) (step : LevelsAfter) : Type 0 where
  pub fresh : Contents
  pub meta : version_of fresh ≡ Some version
  pub changes : IsFresh s.entries after fresh
  pub seq : step.seq ≡ s.header.ledger_seq + 1
  pub levels : IsStep (s.header.ledger_seq + 1) fresh s.levels step.pairs
