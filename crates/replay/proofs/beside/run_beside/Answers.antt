use Rattle.replay.proofs.Prelude.{refl, IsStored, seen, Disk, seen_volume}
use Rattle.replay.proofs.Complete.{stored_on, stored_off}
use Rattle.replay.proofs.beside.run_beside.Goals as goal

pub close_beside-requires-clause-open : goal.close_beside-requires-clause-open
close_beside-requires-clause-open g c = λ lives bounds. record {
  works = c.in-Ok.ensures.works;
  low = c.in-Ok.ensures.low;
  ready = λ te. (c.in-Ok.ensures.opens te).0.ready;
}

pub returns-in-Ok : goal.returns-in-Ok
returns-in-Ok g c =
    let it = c.close_beside in
    let mid : Disk = g.V.Volume.disk c.open.new.vol in
    stored_on c.in-Ok.opened.closing.ledger.state (seen g.I.Source.left g.I.Source.faults c.args.input.now it.new.input)
    (seen g.O.Sink.taken g.O.Sink.faults c.args.out.now it.new.out)
    (seen_volume g.V.Volume.reports g.V.Volume.disk g.V.Volume.faults c.args.vol.now it.new.vol) mid
    (g.V.Volume.faults c.open.new.vol)
    (IsStored c.in-Ok.opened.format c.in-Ok.opened.closing.keeper.store mid c.in-Ok.opened.closing.ledger.state)
    it.result
    (λ x left. g.met.V.Volume.only_now c.args.vol.now x left) (λ te. g.met.V.Volume.reads_now it.new.vol te)
    c.open.ensures.runs (λ te. let opens = c.in-Ok.ensures.opens te in (opens.0.ready, opens.1)) c.open.ensures.later
    it.ensures.followed (λ te. it.ensures.kept tt te)

pub returns-in-Err : goal.returns-in-Err
returns-in-Err g c =
    stored_off (seen g.I.Source.left g.I.Source.faults c.args.input.now c.args.input.now)
    (seen g.O.Sink.taken g.O.Sink.faults c.args.out.now c.args.out.now)
    (seen_volume g.V.Volume.reports g.V.Volume.disk g.V.Volume.faults c.args.vol.now c.open.new.vol) c.in-Err.end
    (refl, refl) (refl, refl) c.open.ensures.runs c.in-Err.ensures.opens c.in-Err.ensures.cause
