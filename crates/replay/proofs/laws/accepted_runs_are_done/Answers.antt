use Rattle.replay.proofs.Prelude.{seen_volume}
use Rattle.replay.proofs.Completing.{catchups_done, runs_done}
use Rattle.replay.proofs.laws.accepted_runs_are_done.Goals as goal

pub returns-clause-catchups : goal.returns-clause-catchups
returns-clause-catchups g c = catchups_done

pub returns-clause-runs : goal.returns-clause-runs
returns-clause-runs g c =
    runs_done (seen_volume g.V.Volume.reports g.V.Volume.disk g.V.Volume.faults c.args.old.now c.args.new.now)
