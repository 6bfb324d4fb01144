use Rattle.replay.proofs.Prelude.{ℕ, ◌≤◌, List, subst, arith, LedgerHeader, IsBytes, last_seq, Seen, seen, EndsAt}
use Rattle.replay.proofs.Prelude.{DiskFailed}
use Rattle.replay.proofs.Turning.{turned_at, turned_off}
use Rattle.replay.proofs.Keeping.{kept_at, kept_off}
use Rattle.replay.proofs.closes.turn.Goals as goal

pub returns-in-Ok-clause-did : goal.returns-in-Ok-clause-did
returns-in-Ok-clause-did g c =
    let p = c.pass_record-stopped in
    let did = p.ensures.did in
    let s = c.args.closing.now.ledger.state in
    let records = c.args.records.now in
    let input : Seen = seen g.I.Source.left g.I.Source.faults c.args.input.now c.read_piece.new.source in
    let out : Seen = seen g.O.Sink.taken g.O.Sink.faults c.args.out.now p.new.out in
    record {
      turned = turned_at s records.at records.ahead.items c.read_piece.new.ahead.items c.in-Ok.size
          p.new.closing.ledger.state p.new.ahead.items input out
          (DiskFailed g.K.Keeper.stores (g.V.Volume.faults c.args.vol.now) (g.V.Volume.faults p.new.vol)) p.result
          did.fits c.in-Ok.ensures.piece.0 c.in-Ok.ensures.piece.1 did.passes did.rest c.in-Ok.ensures.later
          did.step.later
          (subst (λ (h : LedgerHeader). h.ledger_seq ≤ last_seq) c.header.ensures.header c.header.ensures.seq);
      vol_later = did.step.vol_later;
      going = did.step.going;
      kept = λ st te.
          let r = c.requires.going.ready st te in
          kept_at s records.at records.ahead.items c.read_piece.new.ahead.items c.in-Ok.size
          p.new.closing.ledger.state input out (g.V.Volume.disk c.args.vol.now) (g.V.Volume.disk p.new.vol) p.result
          did.fits c.in-Ok.ensures.piece.0 c.in-Ok.ensures.piece.1 r.safe r.opens (did.kept st te);
    }

pub returns-in-Err-clause-did : goal.returns-in-Err-clause-did
returns-in-Err-clause-did g c =
    let s = c.args.closing.now.ledger.state in
    let records = c.args.records.now in
    let input : Seen = seen g.I.Source.left g.I.Source.faults c.args.input.now c.read_piece.new.source in
    let out : Seen = seen g.O.Sink.taken g.O.Sink.faults c.args.out.now c.stop.new.out in
    let value = c.as_slice-ahead.ensures.value in
    let ends = subst (λ (t : List ℕ). EndsAt s records.at t out c.in-Err.fault c.stop.result) value
    c.stop.ensures.ends in
    record {
      turned = turned_off s records.at records.ahead.items c.read_piece.new.ahead.items input out
          (DiskFailed g.K.Keeper.stores (g.V.Volume.faults c.args.vol.now) (g.V.Volume.faults c.args.vol.now))
          c.in-Err.fault c.stop.result (subst IsBytes value c.stop.ensures.fits) c.in-Err.ensures.piece ends;
      vol_later = omega arith;
      going = λ none. absurd (cc);
      kept = λ st te.
          let r = c.requires.going.ready st te in
          kept_off s records.at records.ahead.items c.read_piece.new.ahead.items input out
          (g.V.Volume.disk c.args.vol.now) c.in-Err.fault c.stop.result r.safe r.opens c.in-Err.ensures.piece
          ends;
    }
