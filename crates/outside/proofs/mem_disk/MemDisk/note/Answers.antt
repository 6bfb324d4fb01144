use Rattle.outside.proofs.Prelude.{image_of, items_of}
use Rattle.outside.proofs.MemDisk.{noted, of_files_push}
use Rattle.outside.proofs.mem_disk.MemDisk.note.Goals as goal

pub invariant_of-self-2 : goal.invariant_of-self-2
invariant_of-self-2 c = (
  of_files_push c.self.inside.log.items c.args.call c.push.new.self.items c.in_ok-push.ensures.items
      c.self.invariant.0 c.requires.file,
  noted (image_of (items_of c.self.inside.files)) (items_of c.self.inside.start) c.self.inside.log.items c.args.call
      c.push.new.self.items c.args.self.now c.self.view_is c.in_ok-push.ensures.items c.self.invariant.1
      c.requires.reads,
)
