use Rattle.replay.proofs.Prelude.{seen, Appends-nil}
use Rattle.replay.proofs.Starts.{barred_unstarted, caught_up}
use Rattle.replay.proofs.catchup.catch_up.Goals as goal

pub returns-in-Ok : goal.returns-in-Ok
returns-in-Ok g c =
    caught_up c.args.passphrase.now _ _ _
    (seen g.I.Source.left g.I.Source.faults c.args.input.now c.start.new.input)
    (seen g.O.Sink.taken g.O.Sink.faults c.args.out.now c.follow.new.out) (g.I.Source.left c.follow.new.input)
    (g.I.Source.faults c.follow.new.input) _ c.follow.result c.in-Ok.ensures (λ failed. failed.0)
    c.follow.ensures.did.followed

pub returns-in-Err : goal.returns-in-Err
returns-in-Err g c =
    barred_unstarted c.args.passphrase.now (seen g.I.Source.left g.I.Source.faults c.args.input.now c.start.new.input)
    c.in-Err.end c.in-Err.ensures (seen g.O.Sink.taken g.O.Sink.faults c.args.out.now c.args.out.now)
    (Appends-nil (g.O.Sink.taken c.args.out.now))
