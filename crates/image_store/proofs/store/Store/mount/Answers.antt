use Rattle.image_store.proofs.Prelude.{subst, ◌∙◌, Err, Image, Disk, image_offset, image_in, IsImage, IsChosenHead}
use Rattle.image_store.proofs.Prelude.{ReportsImage, arith}
use Rattle.image_store.proofs.Unmounted.{no_image, no_journal}
use Rattle.image_store.proofs.Words.{top_is}
use Rattle.image_store.proofs.store.Store.mount.Goals as goal

pub returns-clause-low : goal.returns-clause-low
returns-clause-low g c = λ first.
    let fits = rw c.in-Some.is at c.in_ok-file.ensures.fits in
    let low = fits.1.low first in
    omega (arith, low, top_is)

pub returns-in-Err-image_of-clause-mounts : goal.returns-in-Err-image_of-clause-mounts
returns-in-Err-image_of-clause-mounts g c = λ reported.
    let old : Disk = g.V.Volume.disk c.args.vol.now in
    let new : Disk = g.V.Volume.disk c.image_of.new.vol in
    let synced = c.in-Ok.ensures.reads in
    let same = c.chosen.ensures.stays.reads ∙ synced in
    let its = subst (λ (image : Image). IsChosenHead image c.in-Some.file c.in-Some.head) synced
    (rw c.in-Some.is at (c.in_ok-file.ensures.reported reported)) in
    no_image old new c.in-Some.file c.in-Some.head its (g.V.Volume.faults c.chosen.new.vol)
    (g.V.Volume.faults c.image_of.new.vol) c.in-Err-image_of.wrong (c.image_of.ensures.stays.reads ∙ same)
    (subst
    (λ (image : Image).
    ReportsImage c.in-Some.file (image_offset c.in-Some.head.format) (image c.in-Some.file)
    (Err c.in-Err-image_of.wrong)) same
    (c.in-Err-image_of.ensures.reported reported))
    c.in-Err-image_of.ensures.cause.1

pub returns-in-Err-mount-clause-mounts : goal.returns-in-Err-mount-clause-mounts
returns-in-Err-mount-clause-mounts g c = λ reported.
    let old : Disk = g.V.Volume.disk c.args.vol.now in
    let mid : Disk = g.V.Volume.disk c.image_of.new.vol in
    let new : Disk = g.V.Volume.disk c.mount.new.vol in
    let synced = c.in-Ok.ensures.reads in
    let same = c.chosen.ensures.stays.reads ∙ synced in
    let its = subst (λ (image : Image). IsChosenHead image c.in-Some.file c.in-Some.head) synced
    (rw c.in-Some.is at (c.in_ok-file.ensures.reported reported)) in
    let image = subst (λ (image : Image). IsImage (image_in (image c.in-Some.file)) c.in-Ok-image_of.image) same
    (c.in-Ok-image_of.ensures.reported reported) in
    no_journal old new c.in-Some.file c.in-Some.head its (g.V.Volume.faults c.image_of.new.vol)
    (g.V.Volume.faults c.mount.new.vol) c.in-Ok-image_of.image image mid (c.image_of.ensures.stays.reads ∙ same)
    c.in-Err-mount.wrong (c.in-Err-mount.ensures.mounts reported) c.in-Err-mount.ensures.cause
