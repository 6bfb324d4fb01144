use Rattle.replay.proofs.Prelude.{seen_volume}
use Rattle.replay.proofs.ShowCompleting.{show_complete, show_answered, unopened_shown}
use Rattle.replay.proofs.laws.shows_are_answered.Goals as goal

pub returns-clause-complete : goal.returns-clause-complete
returns-clause-complete g c =
    show_complete (seen_volume g.V.Volume.reports g.V.Volume.disk g.V.Volume.faults c.args.old.now c.args.new.now)

pub returns-clause-answered : goal.returns-clause-answered
returns-clause-answered g c =
    show_answered (seen_volume g.V.Volume.reports g.V.Volume.disk g.V.Volume.faults c.args.old.now c.args.new.now)

pub returns-clause-unopened : goal.returns-clause-unopened
returns-clause-unopened g c =
    unopened_shown (seen_volume g.V.Volume.reports g.V.Volume.disk g.V.Volume.faults c.args.old.now c.args.new.now)
