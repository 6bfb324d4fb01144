use Rattle.outside.proofs.Prelude.{refl, sym, ◌∙◌, ap, Same, DiskState, now_on_disk, Sync, reads_now}
use Rattle.outside.proofs.MemDisk.{either, on_ok, pushed, reads_pushed, unmoved, may_pushed}
use Rattle.outside.proofs.mem_disk.MemDisk.sync.Goals as goal

pub returns-clause-safe : goal.returns-clause-safe
returns-clause-safe c = on_ok c.note.result c.note.ensures.noted (λ is.
    λ image may. may_pushed c.args.self.now Sync c.note.new.self is image may
    ∙ sym (reads_pushed c.args.self.now Sync c.note.new.self is))

pub returns-clause-runs : goal.returns-clause-runs
returns-clause-runs c =
    let old = c.args.self.now in
    either c.note.result c.note.ensures.noted c.note.ensures.refused
    (λ is. pushed Same old Sync c.note.new.self is (λ image may. ((now_on_disk old).reads, reads_now old, may)))
    (λ is. unmoved Same old c.note.new.self is (λ image. refl))

pub returns-clause-reads : goal.returns-clause-reads
returns-clause-reads c =
    either c.note.result c.note.ensures.noted c.note.ensures.refused
    (λ is. reads_pushed c.args.self.now Sync c.note.new.self is)
    (λ is. ap (λ (v : DiskState). (now_on_disk v).reads) is)
