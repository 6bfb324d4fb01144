use Rattle.bucket_levels.proofs.Prelude.{AreRenewedTo}
use Rattle.bucket_levels.proofs.levels.renew.Given as goal

abbrev pub invariant-loop-level : goal.invariant-loop-level
invariant-loop-level l = AreRenewedTo l.fn.jobs.items l.fn.merges.items l.level l.jobs.items l.merges.items
