use Rattle.replay.proofs.Prelude.{refl}
use Rattle.replay.proofs.SampleSteps.{first_of}
use Rattle.replay.proofs.sample.first_ledger.Goals as goal

pub returns : goal.returns
returns c =
    first_of c.args.seed c.ranges.seed.fits c.first_states_close.ensures c.images_are_one.ensures _ c.in-Ok.image
    c.judge.result refl c.in-Ok.ensures c.judge.ensures
