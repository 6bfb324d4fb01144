use Rattle.replay.proofs.Prelude.{ℕ, length, refl, subst, inl, inr, Seen, seen, ClosingState, shown_lines, Image, Holds}
use Rattle.replay.proofs.Prelude.{Wrote}
use Rattle.std.specs.FinMap.{entries}
use Rattle.stored_outcome.specs.run_outcome.declared.status.Status.TheVariants as status
use Rattle.replay.proofs.Surviving.{reads_survive}
use Rattle.replay.proofs.show.show.Goals as goal

pub returns-in-Ok : goal.returns-in-Ok
returns-in-Ok g c =
    let out : Seen = seen g.O.Sink.taken g.O.Sink.faults c.args.out.now c.show_opened.new.out in
    let s : ClosingState = c.in-Ok.opened.closing.ledger.state in
    let count : ℕ = length (entries s.entries) in
    let end = c.show_opened.result in
    record {
      runs = c.open.ensures.runs;
      survives = λ te. reads_survive _ _ c.open.ensures.runs (g.met.V.Volume.reads_now c.open.new.vol te);
      reported = λ te.
          let opens = c.in-Ok.ensures.opens te in
          let stored = opens.0.ready.kept in
          inl (
            (
              stored.kept,
              s,
              subst (λ (x : Image). Holds x stored.kept) opens.1 stored.settled.holds,
              stored.yields,
              subst (λ (n : ℕ). Wrote out (shown_lines s.header stored.kept.epoch n count) status.Done end)
                  opens.0.count
                  (subst (λ (e : ℕ). Wrote out (shown_lines s.header e c.in-Ok.opened.records count) status.Done end)
                  stored.settled.epoch c.show_opened.ensures),
            ),
            opens.1,
          );
      any = inl (_, c.show_opened.ensures);
    }

pub returns-in-Err : goal.returns-in-Err
returns-in-Err g c = record {
  runs = c.open.ensures.runs;
  survives = λ te. reads_survive _ _ c.open.ensures.runs (g.met.V.Volume.reads_now c.open.new.vol te);
  reported = λ te. inr ((refl, refl), c.in-Err.ensures.opens te);
  any = inr ((refl, refl), c.in-Err.ensures.cause);
}
