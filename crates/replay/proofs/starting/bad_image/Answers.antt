use Rattle.replay.proofs.Prelude.{bytes_of}
use Rattle.replay.proofs.starting.bad_image.Goals as goal

pub returns-clause-fits : goal.returns-clause-fits
returns-clause-fits c = bytes_of c.args.text.now c.type_inv.text
