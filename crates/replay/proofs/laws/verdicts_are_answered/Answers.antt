use Rattle.replay.proofs.Prelude.{seen_volume}
use Rattle.reports.proofs.OneVerdict.{verdicts_are_one}
use Rattle.replay.proofs.VerdictsAnswered.{verifications_answered, verifications_complete}
use Rattle.replay.proofs.VerdictsAnswered.{verifications_done, verify_runs_done}
use Rattle.replay.proofs.VerdictsAnswered.{verify_runs_answered, verify_runs_complete}
use Rattle.replay.proofs.laws.verdicts_are_answered.Goals as goal

pub returns-clause-one : goal.returns-clause-one
returns-clause-one g c = verdicts_are_one

pub returns-clause-complete : goal.returns-clause-complete
returns-clause-complete g c = verifications_complete

pub returns-clause-answered : goal.returns-clause-answered
returns-clause-answered g c = verifications_answered

pub returns-clause-complete_runs : goal.returns-clause-complete_runs
returns-clause-complete_runs g c =
    verify_runs_complete
    (seen_volume g.V.Volume.reports g.V.Volume.disk g.V.Volume.faults c.args.old.now c.args.new.now)

pub returns-clause-answered_runs : goal.returns-clause-answered_runs
returns-clause-answered_runs g c =
    verify_runs_answered
    (seen_volume g.V.Volume.reports g.V.Volume.disk g.V.Volume.faults c.args.old.now c.args.new.now)

pub returns-clause-done : goal.returns-clause-done
returns-clause-done g c = verifications_done

pub returns-clause-done_runs : goal.returns-clause-done_runs
returns-clause-done_runs g c =
    verify_runs_done (seen_volume g.V.Volume.reports g.V.Volume.disk g.V.Volume.faults c.args.old.now c.args.new.now)
