use Rattle.std.proofs.Common.{refl}
use Rattle.run_outcome.specs.run_streams.Seen.{seen}
use Rattle.reports.proofs.QueryAnswers.{answered, unanswered}
use Rattle.reports.proofs.answering.answer_query.Goals as goal

pub returns-in-Ok : goal.returns-in-Ok
returns-in-Ok g c =
    answered c.args.ledger.now.state (seen g.I.Source.left g.I.Source.faults c.args.input.now c.read_query.new.input)
    (seen g.O.Sink.taken g.O.Sink.faults c.args.out.now c.write_answer.new.out) c.in-Ok.query c.in-Ok.ensures.read
    c.find.result c.find.ensures c.write_answer.result c.write_answer.ensures

pub returns-in-Err : goal.returns-in-Err
returns-in-Err g c =
    unanswered c.args.ledger.now.state (seen g.I.Source.left g.I.Source.faults c.args.input.now c.read_query.new.input)
    (seen g.O.Sink.taken g.O.Sink.faults c.args.out.now c.args.out.now) (refl, refl) c.in-Err.end c.in-Err.ensures.read
