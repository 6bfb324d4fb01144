use Rattle.replay.proofs.Prelude.{inl, inr, refl, ap, ◌∙◌, take, drop, arith, rules, Appends-nil, seen}
use Rattle.replay.proofs.Keeping.{unkept_nothing}
use Rattle.replay.proofs.closes.pass_record.Goals as goal

pub returns-in_default-clause-did : goal.returns-in_default-clause-did
returns-in_default-clause-did g c =
    let record_is = c.prefix_record-record.ensures.framed ∙ ap (take c.args.size) c.as_slice.ensures.value in
    let nothing = Appends-nil (g.O.Sink.taken c.args.out.now) in
    record {
      step = record { later = omega arith; vol_later = omega arith; going = λ none. absurd (cc) };
      passes = record {
        bytes = c.prefix_record-record.result.now;
        framed_is = record_is;
        short = c.prefix_record-record.ensures.short;
        closes = inr (inr (refl, nothing));
      };
      fits = search rules;
      rest = λ none. absurd (cc);
      kept = λ st te. record {
        bytes = c.prefix_record-record.result.now;
        framed_is = record_is;
        short = c.prefix_record-record.ensures.short;
        kept = inl (unkept_nothing c.args.closing.now.ledger.state c.prefix_record-record.result.now
            (seen g.O.Sink.taken g.O.Sink.faults c.args.out.now c.args.out.now) (g.V.Volume.disk c.args.vol.now)
            nothing);
      };
    }

pub returns-in-Some-clause-did : goal.returns-in-Some-clause-did
returns-in-Some-clause-did g c =
    let record_is = c.prefix_record-record.ensures.framed ∙ ap (take c.args.size) c.as_slice.ensures.value in
    let did = c.in-Some.ensures.did in
    record {
      step = did.step;
      passes = record {
        bytes = c.prefix_record-record.result.now;
        framed_is = record_is;
        short = c.prefix_record-record.ensures.short;
        closes = did.closes;
      };
      fits = search rules;
      rest = λ none. absurd (cc);
      kept = λ st te. record {
        bytes = c.prefix_record-record.result.now;
        framed_is = record_is;
        short = c.prefix_record-record.ensures.short;
        kept = did.kept st te;
      };
    }

pub returns-clause-did : goal.returns-clause-did
returns-clause-did g c =
    let record_is = c.prefix_record-record.ensures.framed ∙ ap (take c.args.size) c.as_slice.ensures.value in
    let did = c.in_default-close_record.ensures.did in
    record {
      step = did.step;
      passes = record {
        bytes = c.prefix_record-record.result.now;
        framed_is = record_is;
        short = c.prefix_record-record.ensures.short;
        closes = did.closes;
      };
      fits = search rules;
      rest = λ none. c.in-Ok.ensures ∙ ap (drop c.args.size) c.as_slice-2.ensures.value;
      kept = λ st te. record {
        bytes = c.prefix_record-record.result.now;
        framed_is = record_is;
        short = c.prefix_record-record.ensures.short;
        kept = did.kept st te;
      };
    }
