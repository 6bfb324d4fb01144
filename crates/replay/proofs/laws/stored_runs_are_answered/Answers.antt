use Rattle.replay.proofs.Prelude.{seen_volume}
use Rattle.replay.proofs.StoredCompleting.{stored_complete, stored_done, stored_answered}
use Rattle.replay.proofs.laws.stored_runs_are_answered.Goals as goal

pub returns-clause-complete : goal.returns-clause-complete
returns-clause-complete g c =
    stored_complete (seen_volume g.V.Volume.reports g.V.Volume.disk g.V.Volume.faults c.args.old.now c.args.new.now)

pub returns-clause-done : goal.returns-clause-done
returns-clause-done g c =
    stored_done (seen_volume g.V.Volume.reports g.V.Volume.disk g.V.Volume.faults c.args.old.now c.args.new.now)

pub returns-clause-answered : goal.returns-clause-answered
returns-clause-answered g c =
    stored_answered (seen_volume g.V.Volume.reports g.V.Volume.disk g.V.Volume.faults c.args.old.now c.args.new.now)
