use Rattle.replay.proofs.Prelude.{[], sym, subst, Seen, seen, SeenVolume, seen_volume, ClosingState, DidFollow}
use Rattle.replay.specs.Stored.{CanGoOn}
use Rattle.replay.proofs.beside.serve.Goals as goal

pub follow_with-end-requires-clause-open : goal.follow_with-end-requires-clause-open
follow_with-end-requires-clause-open g c =
    let o = c.args.opened.now in
    subst (CanGoOn o.format o.closing.keeper.store g.V.Volume.reports (g.V.Volume.disk c.args.vol.now))
    (sym c.post_due.ensures.state) c.requires.open

pub returns-clause-followed : goal.returns-clause-followed
returns-clause-followed g c =
    let it = c.follow_with-end in
    let input : Seen = seen g.I.Source.left g.I.Source.faults c.args.input.now it.new.input in
    let out : Seen = seen g.O.Sink.taken g.O.Sink.faults c.args.out.now it.new.out in
    let vol : SeenVolume = seen_volume g.V.Volume.reports g.V.Volume.disk g.V.Volume.faults c.args.vol.now it.new.vol in
    subst (λ (s : ClosingState). DidFollow (Unit {0}) s 0 [] input out vol it.result) c.post_due.ensures.state
    it.ensures.followed

pub returns-clause-side : goal.returns-clause-side
returns-clause-side g c = c.close.ensures.ends c.args.workers c.follow_with-end.ensures.crew
