use Rattle.replay.proofs.Prelude.{SeenVolume, seen_volume}
use Rattle.image_store.specs.gate_journal.declared.fault.StoreFault.TheVariants as fault
use Rattle.replay.proofs.Initing.{moments_of, sound_still, storing_done, storing_fault}
use Rattle.replay.proofs.init.store_image.Goals as goal

pub returns-in-Ok : goal.returns-in-Ok
returns-in-Ok g c =
    let vol : SeenVolume = seen_volume g.V.Volume.reports g.V.Volume.disk g.V.Volume.faults c.args.vol.now
    c.create.new.vol in
    storing_done c.args.network c.args.image.now vol c.in-Ok.field-0
    (λ te. moments_of c.args.network c.args.image.now vol (λ x left. g.met.V.Volume.only_now c.args.vol.now x left)
    (c.create.ensures.runs te))
    (λ te. sound_still c.args.network c.args.image.now vol.before vol.now
    (g.met.V.Volume.reads_now c.create.new.vol te) (c.create.ensures.runs te))
    c.in-Ok.ensures.creates

pub returns-in-Err-DiskFault : goal.returns-in-Err-DiskFault
returns-in-Err-DiskFault g c =
    let vol : SeenVolume = seen_volume g.V.Volume.reports g.V.Volume.disk g.V.Volume.faults c.args.vol.now
    c.create.new.vol in
    storing_fault c.args.network c.args.image.now vol fault.DiskFault
    (λ te. moments_of c.args.network c.args.image.now vol (λ x left. g.met.V.Volume.only_now c.args.vol.now x left)
    (c.create.ensures.runs te))
    (λ te. sound_still c.args.network c.args.image.now vol.before vol.now
    (g.met.V.Volume.reads_now c.create.new.vol te) (c.create.ensures.runs te))
    (rw c.in-Err-DiskFault.field-0-is at c.in-Err-DiskFault.ensures.cause) (λ e. absurd cc)
    (rw c.in-Err-DiskFault.field-0-is at c.in-Err-DiskFault.ensures.creates)

pub returns-in-Err-AlreadyThere : goal.returns-in-Err-AlreadyThere
returns-in-Err-AlreadyThere g c =
    let vol : SeenVolume = seen_volume g.V.Volume.reports g.V.Volume.disk g.V.Volume.faults c.args.vol.now
    c.create.new.vol in
    storing_fault c.args.network c.args.image.now vol fault.AlreadyThere
    (λ te. moments_of c.args.network c.args.image.now vol (λ x left. g.met.V.Volume.only_now c.args.vol.now x left)
    (c.create.ensures.runs te))
    (λ te. sound_still c.args.network c.args.image.now vol.before vol.now
    (g.met.V.Volume.reads_now c.create.new.vol te) (c.create.ensures.runs te))
    (rw c.in-Err-AlreadyThere.field-0-is at c.in-Err-AlreadyThere.ensures.cause) (λ e. absurd cc)
    (rw c.in-Err-AlreadyThere.field-0-is at c.in-Err-AlreadyThere.ensures.creates)
