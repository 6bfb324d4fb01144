use Rattle.reports.proofs.Prelude.{Appends-nil, Stop, Stopped, seen, subst}
use Rattle.reports.proofs.Ending.{finished}
use Rattle.reports.proofs.files.finish.Goals as goal

pub returns-in-Ended : goal.returns-in-Ended
returns-in-Ended g c p input h =
    finished g.G.Gather.kind (g.G.Gather.gathers c.args.gathered.now) p c.args.ledger.now.state input
    (seen g.O.Sink.taken g.O.Sink.faults c.args.out.now c.args.out.now)
    (seen g.E.Sink.taken g.E.Sink.faults c.args.err.now c.report-in-Ended.new.err) c.in-Ended.end
    c.report-in-Ended.result
    (subst (λ (x : Stop). Stopped g.G.Gather.kind (g.G.Gather.gathers c.args.gathered.now) p c.args.ledger.now.state
    input x) c.in-Ended.is h)
    (Appends-nil (g.O.Sink.taken c.args.out.now)) c.report-in-Ended.ensures
