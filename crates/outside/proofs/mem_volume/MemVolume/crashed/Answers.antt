use Rattle.outside.proofs.Prelude.{◌≡◌, ℕ, length, sym, ◌∙◌, ap, subst, Image, DiskState, now_on_disk, filled}
use Rattle.outside.specs.MemVolume.{VolumeState}
use Rattle.outside.proofs.Crashed.{filled_is_left, length-filled}
use Rattle.outside.proofs.mem_volume.MemVolume.crashed.Goals as goal

left_is : (fill : ℕ) (inside : DiskState) (value : VolumeState) (reads : Image) → inside ≡ value.disk
    → reads ≡ filled fill inside → reads ≡ filled fill value.disk
left_is fill inside value reads same is = is ∙ ap (filled fill) same

pub returns-clause-image : goal.returns-clause-image
returns-clause-image c =
    let disk = c.args.self.now.disk in
    let is = left_is c.args.fill c.self.inside.disk c.args.self.now _
    (ap (λ (v : VolumeState). v.disk) c.self.view_is) c.in_ok-crashed.ensures.reads in
    subst (λ (image : Image). (now_on_disk disk).may_leave image) (sym is) (filled_is_left c.args.fill disk)

pub returns-clause-lengths : goal.returns-clause-lengths
returns-clause-lengths c =
    let disk = c.args.self.now.disk in
    let is = left_is c.args.fill c.self.inside.disk c.args.self.now _
    (ap (λ (v : VolumeState). v.disk) c.self.view_is) c.in_ok-crashed.ensures.reads in
    λ k. ap (λ (image : Image). length (image k)) is ∙ length-filled c.args.fill disk k
