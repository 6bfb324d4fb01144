use Rattle.bucket_levels.proofs.Prelude.{arith}
use Rattle.bucket_levels.proofs.Halves.{size_fits, half_is_positive}
use Rattle.bucket_levels.proofs.spills.half.Goals as goal

pub pow-requires : goal.pow-requires
pow-requires c = omega (arith, size_fits c.args.level c.requires)

pub returns-clause-some : goal.returns-clause-some
returns-clause-some c = omega (arith, c.pow.ensures, half_is_positive c.args.level)
