use Rattle.replay.proofs.Prelude.{refl, subst, inl, inr, Image, OpensTo}
use Rattle.replay.proofs.Surviving.{reads_survive}
use Rattle.replay.proofs.path.ask.Goals as goal

pub returns-in-Ok : goal.returns-in-Ok
returns-in-Ok g c =
    let s = c.in-Ok.opened.closing.ledger.state in
    record {
      runs = c.open.ensures.runs;
      survives = λ te. reads_survive _ _ c.open.ensures.runs (g.met.V.Volume.reads_now c.open.new.vol te);
      reported = λ te.
          let opens = c.in-Ok.ensures.opens te in
          inl (
            (s, subst (λ (x : Image). OpensTo x s) opens.1 opens.0.ready.opens, c.answer_query.ensures),
            opens.1,
          );
      any = inl (s, c.answer_query.ensures);
    }

pub returns-in-Err : goal.returns-in-Err
returns-in-Err g c = record {
  runs = c.open.ensures.runs;
  survives = λ te. reads_survive _ _ c.open.ensures.runs (g.met.V.Volume.reads_now c.open.new.vol te);
  reported = λ te. inr ((refl, refl), (refl, refl), c.in-Err.ensures.opens te);
  any = inr ((refl, refl), (refl, refl), c.in-Err.ensures.cause);
}
