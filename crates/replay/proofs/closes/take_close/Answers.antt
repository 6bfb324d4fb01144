use Rattle.replay.proofs.Prelude.{◌≡◌, ◌∙◌, ℕ, List, Ok, sym, subst, inl, inr, arith, rules, Appends-nil, Seen, seen}
use Rattle.replay.proofs.Prelude.{ClosingState, PreparedClose, IsClose, lines_of, Disk, WroteClose, DiskFailed}
use Rattle.replay.proofs.Prelude.{KeptWriting, seen_volume, refl}
use Rattle.std.proofs.Common.{ap}
use Rattle.replay.specs.Keeping.{Ready}
use Rattle.replay.specs.Warming.{changed_keys}
use Rattle.replay.proofs.Warmed.{warmed_after}
use Rattle.worker_merges.specs.ledger_close.States.{close_of}
use Rattle.replay.proofs.Turning.{closed_written}
use Rattle.replay.proofs.Keeping.{keep_failed, kept_written, nothing_closed}
use Rattle.replay.proofs.closes.take_close.Goals as goal
use Rattle.reports.proofs.Streams.{rose_before}

pub keep-requires-clause-ready : goal.keep-requires-clause-ready
keep-requires-clause-ready g c st te = (
  c.args.closing.now.ledger.state,
  close_of c.args.prepared,
  c.requires.going.ready st te,
  subst (λ (b : List ℕ). IsClose c.args.closing.now.ledger.state b (Ok (close_of c.args.prepared)))
      (sym (c.in-Ok-hold.ensures st))
      c.requires.closes,
)

pub write_close-ended-requires : goal.write_close-ended-requires
write_close-ended-requires g c =
    let s : ClosingState = c.args.closing.now.ledger.state in
    let closed : PreparedClose = close_of c.args.prepared in
    let disk : Disk = g.V.Volume.disk c.keep.new.vol in
    record {
      works = c.in-Ok-keep.ensures.works;
      ready = λ st te.
          let closes =
          subst (λ (b : List ℕ). IsClose s b (Ok closed)) (sym (c.in-Ok-hold.ensures st)) c.requires.closes in
          subst (λ (x : ClosingState). Ready (g.K.Keeper.keeps c.keep.new.self disk x) disk x)
          (sym (c.post_due.ensures.state ∙ c.install.ensures.state))
          (c.in-Ok-keep.ensures.kept st te s closed (c.requires.going.ready st te) closes);
    }

pub returns-clause-did : goal.returns-clause-did
returns-clause-did g c =
    let s : ClosingState = c.args.closing.now.ledger.state in
    let closed : PreparedClose = close_of c.args.prepared in
    let w = c.write_close-ended in
    let before : ℕ = g.V.Volume.faults c.args.vol.now in
    let mid : ℕ = g.V.Volume.faults c.keep.new.vol in
    let after : ℕ = g.V.Volume.faults w.new.vol in
    let old : Disk = g.V.Volume.disk c.args.vol.now in
    let kept : Disk = g.V.Volume.disk c.keep.new.vol in
    let new : Disk = g.V.Volume.disk w.new.vol in
    let out : Seen = seen g.O.Sink.taken g.O.Sink.faults c.args.out.now w.new.out in
    let text : c.as_slice-text.result.now ≡ lines_of closed = search rules in
    let late : Type 0 = DiskFailed g.K.Keeper.stores mid after in
    let any : Type 0 = DiskFailed g.K.Keeper.stores before after in
    let state : c.post_due.new.ledger.state ≡ closed.state = c.post_due.ensures.state ∙ c.install.ensures.state in
    let one = c.keep.ensures.cause.later in
    let two = w.ensures.step.vol_later in
    record {
      step = record {
        later = w.ensures.step.later;
        vol_later = omega (arith, one, two);
        going = λ none.
            let going = w.ensures.step.going none in
            record {
              works = going.works;
              ready = λ st te. subst (λ (x : ClosingState). Ready (g.K.Keeper.keeps w.new.keeper new x) new x)
                  (sym c.warm_keys.ensures.state) (going.ready st te);
            };
      };
      closes = closed_written s c.args.bytes.now closed c.warm_keys.new.ledger.state out late any w.result
          c.requires.closes (c.warm_keys.ensures.state ∙ state)
          (λ failed. (failed.0, rose_before before mid after one failed.1))
          (subst (λ (t : List ℕ). WroteClose t out late w.result) text w.ensures.reported);
      kept = λ st te.
          let r = c.requires.going.ready st te in
          let closes =
          subst (λ (b : List ℕ). IsClose s b (Ok closed)) (sym (c.in-Ok-hold.ensures st)) c.requires.closes in
          let k = c.in-Ok-keep.ensures.kept st te s closed r closes in
          let first =
          subst (λ (x : ClosingState). KeptWriting x c.as_slice-text.result.now out kept new w.result) state
          (w.ensures.kept st te) in
          kept_written s c.args.bytes.now closed c.warm_keys.new.ledger.state out old kept new w.result
          c.requires.closes (c.warm_keys.ensures.state ∙ state) k.safe k.opens
          (c.keep.ensures.runs st te s closed r closes)
          (subst (λ (t : List ℕ). KeptWriting closed.state t out kept new w.result) text first);
    }

pub returns-in-Err-clause-did : goal.returns-in-Err-clause-did
returns-in-Err-clause-did g c =
    let s : ClosingState = c.args.closing.now.ledger.state in
    let closed : PreparedClose = close_of c.args.prepared in
    let stores : g.K.Keeper.stores = search (rules, c.in-Err.ensures.stores) in
    let out : Seen = seen g.O.Sink.taken g.O.Sink.faults c.args.out.now c.args.out.now in
    let nothing = Appends-nil (g.O.Sink.taken c.args.out.now) in
    record {
      step = record {
        later = omega arith;
        vol_later = c.keep.ensures.cause.later;
        going = λ none. absurd (cc);
      };
      closes = inl (closed, c.requires.closes, (stores, c.in-Err.ensures.cause.failed), (0, omega arith, nothing));
      kept = λ st te.
          let r = c.requires.going.ready st te in
          let closes =
          subst (λ (b : List ℕ). IsClose s b (Ok closed)) (sym (c.in-Ok-hold.ensures st)) c.requires.closes in
          inr (keep_failed s c.args.bytes.now closed out (g.V.Volume.disk c.args.vol.now)
          (g.V.Volume.disk c.keep.new.vol) c.requires.closes r.safe r.opens
          (c.keep.ensures.runs st te s closed r closes) nothing);
    }

pub returns-in_default-batch_keys-clause-did : goal.returns-in_default-batch_keys-clause-did
returns-in_default-batch_keys-clause-did g c =
    nothing_closed _ c.args.closing.now.ledger.state c.args.bytes.now c.args.closing.now.ledger.state
    (seen g.O.Sink.taken g.O.Sink.faults c.args.out.now c.args.out.now)
    (seen_volume g.V.Volume.reports g.V.Volume.disk g.V.Volume.faults c.args.vol.now c.args.vol.now) _ refl
    (omega arith) (omega arith) (Appends-nil (g.O.Sink.taken c.args.out.now))

pub returns-in_default-clause-did : goal.returns-in_default-clause-did
returns-in_default-clause-did g c =
    nothing_closed _ c.args.closing.now.ledger.state c.args.bytes.now c.args.closing.now.ledger.state
    (seen g.O.Sink.taken g.O.Sink.faults c.args.out.now c.args.out.now)
    (seen_volume g.V.Volume.reports g.V.Volume.disk g.V.Volume.faults c.args.vol.now c.args.vol.now) _ refl
    (omega arith) (omega arith) (Appends-nil (g.O.Sink.taken c.args.out.now))

pub returns-in_default-hold-clause-did : goal.returns-in_default-hold-clause-did
returns-in_default-hold-clause-did g c =
    nothing_closed _ c.args.closing.now.ledger.state c.args.bytes.now c.args.closing.now.ledger.state
    (seen g.O.Sink.taken g.O.Sink.faults c.args.out.now c.args.out.now)
    (seen_volume g.V.Volume.reports g.V.Volume.disk g.V.Volume.faults c.args.vol.now c.args.vol.now) _ refl
    (omega arith) (omega arith) (Appends-nil (g.O.Sink.taken c.args.out.now))

pub returns-clause-warmed : goal.returns-clause-warmed
returns-clause-warmed g c none =
    let keys : c.as_slice.result.now ≡ changed_keys c.args.prepared.batch =
    c.as_slice.ensures.value ∙ c.in-Ok-batch_keys.ensures ∙ ap changed_keys c.batch.ensures in
    warmed_after c.args.prepared c.as_slice.result.now c.args.closing.now.ledger.caches c.install.new.self.caches
    c.post_due.new.ledger.caches c.warm_keys.new.ledger.caches c.install.ensures.caches c.post_due.ensures.caches keys
    c.warm_keys.ensures.pages
