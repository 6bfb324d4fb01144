use Rattle.replay.proofs.Prelude.{arith, refl, Disk}
use Rattle.replay.proofs.Turning.{gone, goes_low, goes_smaller}
use Rattle.replay.proofs.Keeping.{gone_on}
use Rattle.replay.proofs.closes.follow.Goals as goal
use Rattle.reports.proofs.Streams.{rose_before}

pub returns-in-Some-clause-did : goal.returns-in-Some-clause-did
returns-in-Some-clause-did g c =
    let did = c.in-Some.ensures.did in
    let first = c.loop-end.invariant.vol_later in
    let second = did.vol_later in
    record {
      followed = c.loop-end.invariant.carries (g.I.Source.left c.turn.new.input) (g.O.Sink.taken c.turn.new.out)
          (g.I.Source.faults c.turn.new.input) (g.O.Sink.faults c.turn.new.out) (g.V.Volume.faults c.turn.new.vol)
          c.in-Some.end did.turned;
      vol_later = omega (arith, first, second);
      kept = λ st te. c.loop-end.invariant.carries_kept st te c.turn.new.vol (g.I.Source.left c.turn.new.input)
          (g.O.Sink.taken c.turn.new.out) (g.I.Source.faults c.turn.new.input) (g.O.Sink.faults c.turn.new.out)
          c.in-Some.end (did.kept st te);
    }

pub loop-end-smaller : goal.loop-end-smaller
loop-end-smaller g c = goes_smaller _ _ _ _ c.in-None.ensures.did.turned

pub loop-end-preserved : goal.loop-end-preserved
loop-end-preserved g c =
    let did = c.in-None.ensures.did in
    let going = did.going refl in
    let first = c.loop-end.invariant.vol_later in
    let second = did.vol_later in
    let before : Disk = g.V.Volume.disk c.loop-end.vol in
    let mid : Disk = g.V.Volume.disk c.turn.new.vol in
    record {
      carries = λ now out_now faults out_faults vol_faults end f.
          c.loop-end.invariant.carries now out_now faults out_faults vol_faults end
          (gone _ _ _ _ did.turned now out_now faults out_faults _ _ end
          (λ r. (
            r.0,
            rose_before (g.V.Volume.faults c.loop-end.vol) (g.V.Volume.faults c.turn.new.vol) vol_faults
                second r.1,
          )) f);
      carries_kept = λ st te later now out_now faults out_faults end k.
          let r = going.ready st te in
          let after : Disk = g.V.Volume.disk later in
          c.loop-end.invariant.carries_kept st te later now out_now faults out_faults end
          (gone_on _ _ _ _ did.turned now out_now faults out_faults before mid after end r.safe r.opens
          (did.kept st te) k);
      going = going;
      crew = c.in-None.ensures.crew;
      vol_later = omega (arith, first, second);
      low = goes_low _ _ _ _ did.turned c.loop-end.invariant.low;
    }
