use Rattle.replay.proofs.Prelude.{seen_volume}
use Rattle.replay.proofs.Completing.{catchups_complete, runs_complete}
use Rattle.replay.proofs.laws.runs_are_complete.Goals as goal

pub returns-clause-catchups : goal.returns-clause-catchups
returns-clause-catchups g c = catchups_complete

pub returns-clause-runs : goal.returns-clause-runs
returns-clause-runs g c =
    runs_complete (seen_volume g.V.Volume.reports g.V.Volume.disk g.V.Volume.faults c.args.old.now c.args.new.now)
