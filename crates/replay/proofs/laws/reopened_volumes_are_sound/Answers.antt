use Rattle.replay.proofs.Prelude.{seen_volume}
use Rattle.replay.proofs.StoredCompleting.{sound_again, sound_in_run}
use Rattle.replay.proofs.laws.reopened_volumes_are_sound.Goals as goal

pub returns-clause-now : goal.returns-clause-now
returns-clause-now g c = sound_again (g.V.Volume.disk c.args.old.now) (g.V.Volume.disk c.args.again.now)

pub returns-clause-moments : goal.returns-clause-moments
returns-clause-moments g c =
    sound_in_run (seen_volume g.V.Volume.reports g.V.Volume.disk g.V.Volume.faults c.args.old.now c.args.new.now)
    (g.V.Volume.disk c.args.again.now)
