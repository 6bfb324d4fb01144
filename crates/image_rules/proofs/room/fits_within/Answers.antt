use Rattle.image_rules.proofs.Prelude.{arith, ints, to_z-of_z}
use Rattle.image_rules.proofs.room.fits_within.Goals as goal

pub returns : goal.returns
returns c = (λ said. grind (arith, ints, to_z-of_z), λ fits. grind (arith, ints, to_z-of_z))
