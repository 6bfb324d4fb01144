use Rattle.outside.proofs.Prelude.{◌≡◌, ◌<◌, length, sym, ◌∙◌, ap, arith, set, Image, DiskState, image_of, items_of}
use Rattle.outside.proofs.Prelude.{with_file, now_on_disk, after_calls, at_first}
use Rattle.outside.proofs.MemDisk.{reads_push, image_set, of_files_push}
use Rattle.outside.proofs.mem_disk.MemDisk.put.Goals as goal

pub invariant_of-self-2 : goal.invariant_of-self-2
invariant_of-self-2 c =
    let k = c.from.result in
    let next = c.args.next in
    let within : k < length c.self.inside.files = omega (arith, c.from.ensures, c.requires.file, c.self.ranges) in
    let start = items_of c.self.inside.start in
    let log = c.push.new.self.items in
    let reads : image_of (items_of (set c.self.inside.files k next)) ≡ (after_calls log (at_first start)).reads =
    image_set c.self.inside.files k next within
    ∙ ap (λ (image : Image). with_file k (λ _. next.items) image) (c.self.invariant.1
    ∙ ap (λ (v : DiskState). (now_on_disk v).reads) c.self.view_is)
    ∙ ap (λ file. with_file file (λ _. next.items) (now_on_disk c.args.self.now).reads) c.from.ensures
    ∙ sym (reads_push start c.self.inside.log.items c.args.call log c.args.self.now _ c.self.view_is
    c.in_ok-push.ensures.items c.requires.reads) in (
      of_files_push c.self.inside.log.items c.args.call log c.in_ok-push.ensures.items
          c.self.invariant.0 c.requires.call,
      reads,
    )
