use Rattle.outside.proofs.Prelude.{◌≡◌, take, refl, ◌∙◌, InFile, CutShort, now_on_disk, Cut, uncut, changed}
use Rattle.outside.proofs.MemDisk.{either, on_ok, pushed, reads_pushed, unmoved, if_done}
use Rattle.outside.proofs.mem_disk.MemDisk.cut.Goals as goal

pub returns-then-not-done-clause-runs : goal.returns-then-not-done-clause-runs
returns-then-not-done-clause-runs c =
    let old = c.args.self.now in
    let step = InFile c.args.file (CutShort c.args.size) in
    either c.note.result c.note.ensures.noted c.note.ensures.refused
    (λ is. pushed step old (Cut c.args.file c.args.size c.args.done) c.note.new.self is (λ image may. may))
    (λ is. unmoved step old c.note.new.self is (uncut c.args.file c.args.size))

pub returns-clause-cut : goal.returns-clause-cut
returns-clause-cut c = on_ok c.put.result c.put.ensures.noted (λ is done.
    let old = c.args.self.now in
    let call = Cut c.args.file c.args.size c.args.done in
    changed c.args.file (take c.args.size) (λ before after.
    after ≡ take c.args.size before) (now_on_disk old).reads (now_on_disk c.put.new.self).reads
    (reads_pushed old call c.put.new.self is ∙ if_done c.args.done _ _ done) refl)

pub returns-clause-runs : goal.returns-clause-runs
returns-clause-runs c =
    let old = c.args.self.now in
    let step = InFile c.args.file (CutShort c.args.size) in
    either c.put.result c.put.ensures.noted c.put.ensures.refused
    (λ is. pushed step old (Cut c.args.file c.args.size c.args.done) c.put.new.self is (λ image may. may))
    (λ is. unmoved step old c.put.new.self is (uncut c.args.file c.args.size))
