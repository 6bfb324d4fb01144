-- How far a step is planned.
use Rattle.std.specs.Prelude.{ℕ, List}
use Rattle.bucket_core.specs.Bucket.{Contents}
use Rattle.bucket_levels.specs.EachLevel.{EachLevel}
use Rattle.bucket_levels.specs.Pairs.{Pair, empty_pair}
use Rattle.bucket_levels.specs.Step.{IsPairAfter}

-- these are the files that the first levels have after the step
abbrev pub ArePlanned : (seq : ℕ) → (fresh : Contents) → List Pair → (level : ℕ) → List Pair → Type 0
ArePlanned seq fresh old level new = EachLevel empty_pair (IsPairAfter seq fresh old) level new
