use Rattle.replay.proofs.Prelude.{◌≡◌, [], List, ℕ, subst, arith, Appends-nil, Consumes-nil, Seen, seen, Disk}
use Rattle.replay.proofs.Prelude.{ClosingState, OpensTo, Followed, DiskFailed, KeptOn}
use Rattle.stored_outcome.specs.run_outcome.declared.status.Status.TheVariants as status
use Rattle.replay.proofs.Turning.{nothing_followed, volume_failed, followed_later}
use Rattle.replay.proofs.Keeping.{nothing_kept, kept_rolled}
use Rattle.replay.proofs.closer.follow_with.Goals as goal
use Rattle.reports.proofs.Streams.{rose_before}

pub returns-in-Err-DiskFault-clause-followed : goal.returns-in-Err-DiskFault-clause-followed
returns-in-Err-DiskFault-clause-followed g c =
    let s : ClosingState = c.args.opened.now.closing.ledger.state in
    let input : Seen = seen g.I.Source.left g.I.Source.faults c.args.input.now c.args.input.now in
    let out : Seen = seen g.O.Sink.taken g.O.Sink.faults c.args.out.now c.args.out.now in
    let failed : Type 0 =
    DiskFailed (Unit {0}) (g.V.Volume.faults c.args.vol.now) (g.V.Volume.faults c.migrate.new.vol) in
    let received = Appends-nil (g.O.Sink.taken c.args.out.now) in
    record {
      followed = volume_failed s 0 [] input out failed received
          (rw c.in-Err-DiskFault.field-0-is at c.in-Err-DiskFault.ensures.cause);
      vol_later = c.migrate.ensures.later;
      kept = λ st te.
          let r = c.requires.open.ready te in
          nothing_kept s 0 [] input out (g.V.Volume.disk c.args.vol.now) (g.V.Volume.disk c.migrate.new.vol)
          status.DiskFault tt r.safe r.opens (c.migrate.ensures.runs te)
          (Consumes-nil (g.I.Source.left c.args.input.now)) received;
    }

pub returns-in-Err-NoMemory-clause-followed : goal.returns-in-Err-NoMemory-clause-followed
returns-in-Err-NoMemory-clause-followed g c =
    let s : ClosingState = c.args.opened.now.closing.ledger.state in
    let input : Seen = seen g.I.Source.left g.I.Source.faults c.args.input.now c.args.input.now in
    let out : Seen = seen g.O.Sink.taken g.O.Sink.faults c.args.out.now c.args.out.now in
    let failed : Type 0 =
    DiskFailed (Unit {0}) (g.V.Volume.faults c.args.vol.now) (g.V.Volume.faults c.migrate.new.vol) in
    let received = Appends-nil (g.O.Sink.taken c.args.out.now) in
    record {
      followed = nothing_followed s 0 [] input out failed received;
      vol_later = c.migrate.ensures.later;
      kept = λ st te.
          let r = c.requires.open.ready te in
          nothing_kept s 0 [] input out (g.V.Volume.disk c.args.vol.now) (g.V.Volume.disk c.migrate.new.vol)
          status.NoMemory tt r.safe r.opens (c.migrate.ensures.runs te)
          (Consumes-nil (g.I.Source.left c.args.input.now)) received;
    }

pub returns-clause-followed : goal.returns-clause-followed
returns-clause-followed g c =
    let s : ClosingState = c.args.opened.now.closing.ledger.state in
    let after : ClosingState = c.migrate.new.opened.closing.ledger.state in
    let state : after ≡ s = c.migrate.ensures.state in
    let input : Seen = seen g.I.Source.left g.I.Source.faults c.args.input.now c.follow.new.input in
    let out : Seen = seen g.O.Sink.taken g.O.Sink.faults c.args.out.now c.follow.new.out in
    let first : ℕ = g.V.Volume.faults c.args.vol.now in
    let second : ℕ = g.V.Volume.faults c.migrate.new.vol in
    let last : ℕ = g.V.Volume.faults c.follow.new.vol in
    let late : Type 0 = DiskFailed (Unit {0}) second last in
    let any : Type 0 = DiskFailed (Unit {0}) first last in
    let old : Disk = g.V.Volume.disk c.args.vol.now in
    let mid : Disk = g.V.Volume.disk c.migrate.new.vol in
    let new : Disk = g.V.Volume.disk c.follow.new.vol in
    let one = c.migrate.ensures.later in
    let did = c.follow.ensures.did in
    let two = did.vol_later in
    record {
      followed = followed_later s 0 [] input out late any c.follow.result
          (λ failed. (failed.0, rose_before first second last one failed.1))
          (subst (λ (x : ClosingState). Followed x 0 [] input out late c.follow.result) state
          (subst (λ (ahead : List ℕ). Followed after 0 ahead input out late c.follow.result) c.new.ensures.items
          did.followed));
      vol_later = omega (arith, one, two);
      kept = λ st te.
          let r = c.in-Ok.ensures.going.ready tt te in
          kept_rolled s 0 [] input out old mid new c.follow.result r.safe
          (subst (λ (x : ClosingState). OpensTo mid.reads x) state r.opens) (c.migrate.ensures.runs te)
          (subst (λ (x : ClosingState). KeptOn x 0 [] input out mid new c.follow.result) state
          (subst (λ (ahead : List ℕ). KeptOn after 0 ahead input out mid new c.follow.result)
          c.new.ensures.items (did.kept st te)));
    }
