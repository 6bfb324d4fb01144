use Rattle.image_store.proofs.Prelude.{◌≡◌, ap, subst, ◌∙◌, ℕ, List, take, drop, image_offset, ReportsBytes}
use Rattle.image_store.proofs.Complete.{all_after, reported_image}
use Rattle.image_store.proofs.mounting.image_of.Goals as goal

pub returns-clause-reported : goal.returns-clause-reported
returns-clause-reported g c = λ reported.
    let file : List ℕ = (g.V.Volume.disk c.args.vol.now).reads c.args.file in
    let bytes : List ℕ = c.in_ok-bytes.bytes.items in
    let at : c.image_offset-at.result ≡ image_offset c.args.head.now.format = c.image_offset-at.ensures in
    reported_image c.args.file (image_offset c.args.head.now.format) file bytes c.complete_image.result
    (all_after file bytes c.args.head.now (c.requires.size reported)
    (c.in_ok-bytes.ensures.bytes reported ∙ ap (λ n. take c.args.head.now.len (drop n file)) at))
    (subst (λ n. ReportsBytes c.args.file n bytes c.complete_image.result) at c.complete_image.ensures)
