use Rattle.replay.proofs.Prelude.{seen_volume}
use Rattle.replay.proofs.StoredCompleting.{bad_inputs_answered, bad_images_answered, images_answered}
use Rattle.replay.proofs.laws.inits_are_answered.Goals as goal

pub returns-clause-bad_input : goal.returns-clause-bad_input
returns-clause-bad_input g c =
    bad_inputs_answered (seen_volume g.V.Volume.reports g.V.Volume.disk g.V.Volume.faults c.args.old.now c.args.new.now)

pub returns-clause-bad_image : goal.returns-clause-bad_image
returns-clause-bad_image g c =
    bad_images_answered (seen_volume g.V.Volume.reports g.V.Volume.disk g.V.Volume.faults c.args.old.now c.args.new.now)

pub returns-clause-image : goal.returns-clause-image
returns-clause-image g c =
    images_answered (seen_volume g.V.Volume.reports g.V.Volume.disk g.V.Volume.faults c.args.old.now c.args.new.now)
