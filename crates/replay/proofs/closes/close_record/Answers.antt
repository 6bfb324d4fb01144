use Rattle.replay.proofs.Prelude.{inl, subst, arith, Seen, seen, ClosingState, Disk, Stops, DiskFailed, IsUnkept}
use Rattle.replay.proofs.Turning.{stops_of}
use Rattle.replay.proofs.Keeping.{unkept_refused, closed_from}
use Rattle.replay.proofs.closes.close_record.Goals as goal

pub returns-in-Ok-clause-did : goal.returns-in-Ok-clause-did
returns-in-Ok-clause-did g c =
    closed_from _ c.adopt.new.ledger.state c.args.closing.now.ledger.state c.adopt.ensures.state c.args.text.now _ _ _ _
    _
    c.take_close.ensures.did

pub returns-in-Err-clause-did : goal.returns-in-Err-clause-did
returns-in-Err-clause-did g c =
    let out : Seen = seen g.O.Sink.taken g.O.Sink.faults c.args.out.now c.refuse.new.out in
    let failed : Type 0 =
    DiskFailed g.K.Keeper.stores (g.V.Volume.faults c.args.vol.now) (g.V.Volume.faults c.args.vol.now) in
    let disk : Disk = g.V.Volume.disk c.args.vol.now in
    record {
      step = record { later = c.refuse.ensures.later; vol_later = omega arith; going = λ none. absurd (cc) };
      closes = subst (λ (s : ClosingState). Stops s c.args.text.now out failed c.refuse.result) c.adopt.ensures.state
          (stops_of c.adopt.new.ledger.state c.args.text.now out failed c.in-Err.fault c.refuse.result
          c.in-Err.ensures.answers c.refuse.ensures.refuses);
      kept = λ st te. inl
          (subst (λ (s : ClosingState). IsUnkept s c.args.text.now out disk disk c.refuse.result) c.adopt.ensures.state
          (unkept_refused c.adopt.new.ledger.state c.args.text.now out disk c.in-Err.fault c.refuse.result
          c.in-Err.ensures.answers c.refuse.ensures.refuses));
    }
