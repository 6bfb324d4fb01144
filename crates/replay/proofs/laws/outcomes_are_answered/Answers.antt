use Rattle.replay.proofs.Prelude.{seen_volume}
use Rattle.replay.proofs.Completing.{catchups_answered, runs_answered}
use Rattle.replay.proofs.laws.outcomes_are_answered.Goals as goal

pub returns-clause-catchups : goal.returns-clause-catchups
returns-clause-catchups g c = catchups_answered

pub returns-clause-runs : goal.returns-clause-runs
returns-clause-runs g c =
    runs_answered (seen_volume g.V.Volume.reports g.V.Volume.disk g.V.Volume.faults c.args.old.now c.args.new.now)
