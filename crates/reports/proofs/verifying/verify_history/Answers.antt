use Rattle.std.proofs.KnownBytes.{Appends-nil}
use Rattle.run_outcome.specs.run_streams.Seen.{seen}
use Rattle.reports.proofs.HistoryPrefix.{headers_fit}
use Rattle.reports.proofs.Verdict.{unread_verifies, judged_verifies}
use Rattle.reports.proofs.verifying.verify_history.Goals as goal

pub write_verdict-requires : goal.write_verdict-requires
write_verdict-requires g c = headers_fit c.in-Ok.stated c.in-Ok.ensures.within

pub returns-in-Ok : goal.returns-in-Ok
returns-in-Ok g c =
    judged_verifies c.in-Ok.stated (seen g.I.Source.left g.I.Source.faults c.args.input.now c.read_history.new.input)
    (seen g.O.Sink.taken g.O.Sink.faults c.args.out.now c.write_verdict.new.out) c.write_verdict.result
    c.in-Ok.ensures c.write_verdict.ensures

pub returns-in-Err : goal.returns-in-Err
returns-in-Err g c =
    unread_verifies (seen g.I.Source.left g.I.Source.faults c.args.input.now c.read_history.new.input)
    (seen g.O.Sink.taken g.O.Sink.faults c.args.out.now c.args.out.now) c.in-Err.end c.in-Err.ensures
    (Appends-nil (g.O.Sink.taken c.args.out.now))
