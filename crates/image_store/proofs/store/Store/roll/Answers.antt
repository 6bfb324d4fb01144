use Rattle.image_store.proofs.Prelude.{sym, subst, ◌∙◌, ◌+◌, ◌-◌, ◌<◌, ◌^◌, Disk, StoreState, IsSettled}
use Rattle.image_store.proofs.Rolled.{roll_runs, roll_settled}
use Rattle.image_store.proofs.store.Store.roll.Goals as goal

pub returns-in-Ok-turn-clause-ok : goal.returns-in-Ok-turn-clause-ok
returns-in-Ok-turn-clause-ok g c = λ reported kept settled.
    let old : Disk = g.V.Volume.disk c.args.vol.now in
    let new : Disk = g.V.Volume.disk c.turn.new.vol in
    let before : StoreState = record {
      epoch = c.self.inside.epoch;
      end = c.self.inside.journal.end;
      network = c.self.inside.network;
      failed = c.self.inside.failed;
    } in
    let s = subst (λ (x : StoreState). IsSettled x old kept) (sym c.self.view_is) settled in
    let low : before.epoch < 2 ^ 63 - 1 =
    subst (λ (x : StoreState). x.epoch < 2 ^ 63 - 1) (sym c.self.view_is) c.requires.epoch in
    roll_settled c.args.image.now c.requires.within c.in-Ok.ensures.sized c.in-Ok.ensures.fits before old new kept s
    c.after_gate.ensures.network low c.as_slice.result.now (c.as_slice.ensures.value ∙ c.in-Ok.ensures.piece) _
    (c.in-Ok-turn.ensures.turned reported) c.in-Ok-turn.ensures.safe
    (λ i. record {
      epoch = before.epoch + 1;
      end = (c.in-Ok-turn.ensures.journal i).end;
      network = before.network;
      failed = c.if-self.false i;
    })

pub returns-in-Ok-turn-clause-runs : goal.returns-in-Ok-turn-clause-runs
returns-in-Ok-turn-clause-runs g c = λ reported kept settled.
    let old : Disk = g.V.Volume.disk c.args.vol.now in
    let before : StoreState = record {
      epoch = c.self.inside.epoch;
      end = c.self.inside.journal.end;
      network = c.self.inside.network;
      failed = c.self.inside.failed;
    } in
    let s = subst (λ (x : StoreState). IsSettled x old kept) (sym c.self.view_is) settled in
    let low : before.epoch < 2 ^ 63 - 1 =
    subst (λ (x : StoreState). x.epoch < 2 ^ 63 - 1) (sym c.self.view_is) c.requires.epoch in
    roll_runs c.args.image.now c.requires.within c.in-Ok.ensures.sized c.in-Ok.ensures.fits before old
    (g.V.Volume.disk c.turn.new.vol) kept s c.after_gate.ensures.network low c.as_slice.result.now
    (c.as_slice.ensures.value ∙ c.in-Ok.ensures.piece) (c.turn.ensures.runs reported)

pub returns-clause-runs : goal.returns-clause-runs
returns-clause-runs g c = λ reported kept settled.
    let old : Disk = g.V.Volume.disk c.args.vol.now in
    let before : StoreState = record {
      epoch = c.self.inside.epoch;
      end = c.self.inside.journal.end;
      network = c.self.inside.network;
      failed = c.self.inside.failed;
    } in
    let s = subst (λ (x : StoreState). IsSettled x old kept) (sym c.self.view_is) settled in
    let low : before.epoch < 2 ^ 63 - 1 =
    subst (λ (x : StoreState). x.epoch < 2 ^ 63 - 1) (sym c.self.view_is) c.requires.epoch in
    roll_runs c.args.image.now c.requires.within c.in-Ok.ensures.sized c.in-Ok.ensures.fits before old
    (g.V.Volume.disk c.turn.new.vol) kept s c.after_gate.ensures.network low c.as_slice.result.now
    (c.as_slice.ensures.value ∙ c.in-Ok.ensures.piece) (c.turn.ensures.runs reported)
