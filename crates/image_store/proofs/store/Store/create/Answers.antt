use Rattle.image_store.proofs.Prelude.{◌≡◌, sym, subst, ◌∙◌, false, Disk, Image, HoldsNothing, IsTurned}
use Rattle.image_store.proofs.Created.{same_twice, safe_still, create_runs, create_settled}
use Rattle.image_store.proofs.store.Store.create.Goals as goal

pub returns-in-Err-turn-clause-runs : goal.returns-in-Err-turn-clause-runs
returns-in-Err-turn-clause-runs g c = λ reported.
    let old : Disk = g.V.Volume.disk c.args.vol.now in
    let synced : Disk = g.V.Volume.disk c.sync.new.self in
    let mid : Disk = g.V.Volume.disk c.is_any_open.new.vol in
    let stays = c.is_any_open.ensures.stays in
    create_runs c.args.image.now c.requires.within c.in-Ok.ensures.sized c.in-Ok.ensures.fits c.args.network
    c.after_gate.ensures.network c.as_slice.result.now (c.as_slice.ensures.value ∙ c.in-Ok.ensures.piece) old mid
    (g.V.Volume.disk c.turn.new.vol) (same_twice old synced mid c.sync.ensures.runs stays)
    (safe_still synced mid c.in-Ok-sync.ensures.safe stays)
    (subst HoldsNothing (sym stays.reads) (rw c.in-Ok-false.field-0-test at (c.in-Ok-false.ensures.reported reported)))
    (c.turn.ensures.runs reported)

pub returns-clause-runs : goal.returns-clause-runs
returns-clause-runs g c = λ reported.
    let old : Disk = g.V.Volume.disk c.args.vol.now in
    let synced : Disk = g.V.Volume.disk c.sync.new.self in
    let mid : Disk = g.V.Volume.disk c.is_any_open.new.vol in
    let stays = c.is_any_open.ensures.stays in
    create_runs c.args.image.now c.requires.within c.in-Ok.ensures.sized c.in-Ok.ensures.fits c.args.network
    c.after_gate.ensures.network c.as_slice.result.now (c.as_slice.ensures.value ∙ c.in-Ok.ensures.piece) old mid
    (g.V.Volume.disk c.turn.new.vol) (same_twice old synced mid c.sync.ensures.runs stays)
    (safe_still synced mid c.in-Ok-sync.ensures.safe stays)
    (subst HoldsNothing (sym stays.reads) (rw c.in-Ok-false.field-0-test at (c.in-Ok-false.ensures.reported reported)))
    (c.turn.ensures.runs reported)

pub returns-clause-creates : goal.returns-clause-creates
returns-clause-creates g c = λ reported.
    let old : Disk = g.V.Volume.disk c.args.vol.now in
    let mid : Disk = g.V.Volume.disk c.is_any_open.new.vol in
    let new : Disk = g.V.Volume.disk c.turn.new.vol in
    let same : mid.reads ≡ old.reads = c.is_any_open.ensures.stays.reads ∙ c.in-Ok-sync.ensures.reads in
    let nothing = subst HoldsNothing c.in-Ok-sync.ensures.reads
    (rw c.in-Ok-false.field-0-test at (c.in-Ok-false.ensures.reported reported)) in (
      nothing,
      create_settled c.args.image.now c.requires.within c.in-Ok.ensures.sized c.in-Ok.ensures.fits c.args.network
          c.after_gate.ensures.network c.as_slice.result.now (c.as_slice.ensures.value ∙ c.in-Ok.ensures.piece) _ old
          new nothing
          (subst (λ (image : Image). IsTurned 0 c.as_slice.result.now image new.reads) same
          (c.in-Ok-turn.ensures.turned reported))
          c.in-Ok-turn.ensures.safe
          (λ i. record {
            epoch = 0;
            end = (c.in-Ok-turn.ensures.journal i).end;
            network = c.args.network;
            failed = false;
          }),
    )
