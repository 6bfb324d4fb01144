use Rattle.replay.proofs.Prelude.{seen_volume}
use Rattle.replay.proofs.AskCompleting.{query_complete, query_done, query_given, unopened_asked}
use Rattle.replay.proofs.laws.paths_are_answered.Goals as goal

pub returns-clause-complete : goal.returns-clause-complete
returns-clause-complete g c =
    query_complete (seen_volume g.V.Volume.reports g.V.Volume.disk g.V.Volume.faults c.args.old.now c.args.new.now)

pub returns-clause-answered : goal.returns-clause-answered
returns-clause-answered g c =
    query_given c.answers_are_one.ensures
    (seen_volume g.V.Volume.reports g.V.Volume.disk g.V.Volume.faults c.args.old.now c.args.new.now)

pub returns-clause-unopened : goal.returns-clause-unopened
returns-clause-unopened g c =
    unopened_asked (seen_volume g.V.Volume.reports g.V.Volume.disk g.V.Volume.faults c.args.old.now c.args.new.now)

pub returns-clause-done : goal.returns-clause-done
returns-clause-done g c =
    query_done (seen_volume g.V.Volume.reports g.V.Volume.disk g.V.Volume.faults c.args.old.now c.args.new.now)
