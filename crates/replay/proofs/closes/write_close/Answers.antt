use Rattle.replay.proofs.Prelude.{arith, Seen, seen}
use Rattle.replay.proofs.Keeping.{writing_failed, settle_failed, settle_refused}
use Rattle.replay.proofs.closes.write_close.Goals as goal

pub returns-in-Err : goal.returns-in-Err
returns-in-Err g c =
    let out : Seen = seen g.O.Sink.taken g.O.Sink.faults c.args.out.now c.write_all.new.sink in
    record {
      step = record {
        later = c.write_all.ensures.cause.later;
        vol_later = omega arith;
        going = λ none. absurd (cc);
      };
      reported = (c.in-Err.ensures.cause.failed, c.write_all.ensures.prefix);
      kept = λ st te.
          let r = c.requires.ready st te in
          writing_failed c.args.ledger.now.state c.args.text.now out (g.V.Volume.disk c.args.vol.now) r.safe r.opens
          c.write_all.ensures.prefix;
    }

pub returns-in-Err-DiskFault : goal.returns-in-Err-DiskFault
returns-in-Err-DiskFault g c =
    let out : Seen = seen g.O.Sink.taken g.O.Sink.faults c.args.out.now c.write_all.new.sink in
    record {
      step = record {
        later = c.write_all.ensures.cause.later;
        vol_later = c.settle.ensures.later;
        going = λ none. absurd (cc);
      };
      reported = (
        rw c.in-Err-DiskFault.field-0-is at c.in-Err-DiskFault.ensures.cause,
        c.write_all.ensures.prefix,
      );
      kept = λ st te.
          let r = c.requires.ready st te in
          settle_failed c.args.ledger.now.state c.args.text.now out (g.V.Volume.disk c.args.vol.now)
          (g.V.Volume.disk c.settle.new.vol) r.safe r.opens (c.settle.ensures.runs st te) c.in-Ok.ensures.entire;
    }

pub returns-in-Err-NoMemory : goal.returns-in-Err-NoMemory
returns-in-Err-NoMemory g c =
    let out : Seen = seen g.O.Sink.taken g.O.Sink.faults c.args.out.now c.write_all.new.sink in
    record {
      step = record {
        later = c.write_all.ensures.cause.later;
        vol_later = c.settle.ensures.later;
        going = λ none. absurd (cc);
      };
      reported = (tt, c.write_all.ensures.prefix);
      kept = λ st te.
          let r = (rw c.in-Err-NoMemory.field-0-is at c.in-Err-NoMemory.ensures.kept) st te in
          settle_refused c.args.ledger.now.state c.args.text.now out (g.V.Volume.disk c.args.vol.now)
          (g.V.Volume.disk c.settle.new.vol) r.safe r.opens (c.settle.ensures.runs st te) c.in-Ok.ensures.entire;
    }

pub returns-in-Ok-settle : goal.returns-in-Ok-settle
returns-in-Ok-settle g c = record {
  step = record {
    later = c.write_all.ensures.cause.later;
    vol_later = c.settle.ensures.later;
    going = λ none. record { works = c.in-Ok-settle.ensures.works; ready = c.in-Ok-settle.ensures.kept };
  };
  reported = c.in-Ok.ensures.entire;
  kept = λ st te. c.settle.ensures.runs st te;
}
