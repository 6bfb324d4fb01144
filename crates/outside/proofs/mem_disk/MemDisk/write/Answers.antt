use Rattle.outside.proofs.Prelude.{◌≡◌, ℕ, length, ◌∙◌, ap, subst, InFile, Torn, Wrote, now_on_disk, written, Write}
use Rattle.outside.proofs.Prelude.{untorn, changed}
use Rattle.outside.proofs.MemDisk.{either, on_ok, pushed, reads_pushed, unmoved, if_done, written_within}
use Rattle.outside.proofs.mem_disk.MemDisk.write.Goals as goal

pub returns-then-not-done-clause-runs : goal.returns-then-not-done-clause-runs
returns-then-not-done-clause-runs c =
    let old = c.args.self.now in
    let piece = c.in_ok-from_slice.field-0 in
    let step = λ (n : ℕ). InFile c.args.file (Torn c.args.at n) in
    let long : length piece.items ≡ length c.args.piece.now = ap length c.in_ok-from_slice.ensures.items in
    either c.note.result c.note.ensures.noted c.note.ensures.refused
    (λ is. pushed (step (length c.args.piece.now)) old
    (Write c.args.file c.args.at piece c.args.done) c.note.new.self is
    (λ image may. (may.0, may.1, subst (λ (n : ℕ). step n may.0 image) long may.2)))
    (λ is. unmoved (step (length c.args.piece.now)) old c.note.new.self is
    (untorn c.args.file c.args.at (length c.args.piece.now)))

pub returns-clause-written : goal.returns-clause-written
returns-clause-written c = on_ok c.put.result c.put.ensures.noted (λ is done within.
    let old = c.args.self.now in
    let piece = c.in_ok-from_slice.field-0 in
    let call = Write c.args.file c.args.at piece c.args.done in
    changed c.args.file (written 0 c.args.at piece.items) (Wrote c.args.at c.args.piece.now) (now_on_disk old).reads
    (now_on_disk c.put.new.self).reads
    (reads_pushed old call c.put.new.self is ∙ if_done c.args.done _ _ done)
    (written_within c.args.at piece.items c.args.piece.now
    ((now_on_disk old).reads c.args.file) c.in_ok-from_slice.ensures.items within))

pub returns-clause-runs : goal.returns-clause-runs
returns-clause-runs c =
    let old = c.args.self.now in
    let piece = c.in_ok-from_slice.field-0 in
    let step = λ (n : ℕ). InFile c.args.file (Torn c.args.at n) in
    let long : length piece.items ≡ length c.args.piece.now = ap length c.in_ok-from_slice.ensures.items in
    either c.put.result c.put.ensures.noted c.put.ensures.refused
    (λ is. pushed (step (length c.args.piece.now)) old (Write c.args.file c.args.at piece c.args.done) c.put.new.self is
    (λ image may. (may.0, may.1, subst (λ (n : ℕ). step n may.0 image) long may.2)))
    (λ is. unmoved (step (length c.args.piece.now)) old c.put.new.self is
    (untorn c.args.file c.args.at (length c.args.piece.now)))
