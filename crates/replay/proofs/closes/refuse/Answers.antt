use Rattle.replay.proofs.Prelude.{seen}
use Rattle.replay.proofs.Turning.{refuses_of}
use Rattle.replay.proofs.closes.refuse.Goals as goal

pub returns-in_default-clause-refuses : goal.returns-in_default-clause-refuses
returns-in_default-clause-refuses g c =
    refuses_of c.args.ledger.now.state.header
    (seen g.O.Sink.taken g.O.Sink.faults c.args.out.now c.write_refusal.new.out)
    c.args.fault c.write_refusal.result c.in_default.not-NoMemory c.write_refusal.ensures.wrote
