use Rattle.tally.proofs.Prelude.{arith, ints, to_z-of_z}
use Rattle.tally.proofs.holdings.of_pool.Goals as goal

pub returns-clause-value : goal.returns-clause-value
returns-clause-value c = grind (arith, ints, to_z-of_z)
