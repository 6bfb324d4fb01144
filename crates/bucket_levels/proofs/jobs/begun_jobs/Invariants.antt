use Rattle.bucket_levels.proofs.Prelude.{map, pair_of}
use Rattle.bucket_levels.specs.Held as spec
use Rattle.bucket_levels.proofs.jobs.begun_jobs.Given as goal

abbrev pub invariant-loop-level : goal.invariant-loop-level
invariant-loop-level l = spec.AreBegun (map pair_of l.pairs) l.seq l.level l.jobs.items
