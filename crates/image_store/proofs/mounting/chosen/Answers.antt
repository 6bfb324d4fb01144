use Rattle.image_store.proofs.Prelude.{sym, subst, Ok, Err, Image, ReportsHead, ReportsChosen}
use Rattle.image_store.proofs.Chosen.{reported_chosen, second_misformed}
use Rattle.image_store.proofs.mounting.chosen.Goals as goal

pub returns-in-Err-clause-reported : goal.returns-in-Err-clause-reported
returns-in-Err-clause-reported g c = λ reported.
    let reads : Image = (g.V.Volume.disk c.args.vol.now).reads in
    let second = subst (λ (image : Image). ReportsHead 1 (image 1) (Err c.in-Err.wrong))
    c.in_ok-first.ensures.stays.reads (c.in-Err.ensures.reported reported) in
    second_misformed reads c.in_ok-first.first c.in-Err.wrong (c.in_ok-first.ensures.reported reported) second

pub returns-clause-reported : goal.returns-clause-reported
returns-clause-reported g c = λ reported.
    let reads : Image = (g.V.Volume.disk c.args.vol.now).reads in
    let second = subst (λ (image : Image). ReportsHead 1 (image 1) (Ok c.in-Ok.second))
    c.in_ok-first.ensures.stays.reads (c.in-Ok.ensures.reported reported) in
    subst (λ found. ReportsChosen reads (Ok found)) (sym c.greater.ensures)
    (reported_chosen reads c.in_ok-first.first c.in-Ok.second (c.in_ok-first.ensures.reported reported) second)
