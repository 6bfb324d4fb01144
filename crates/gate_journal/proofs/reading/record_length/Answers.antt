use Rattle.gate_journal.proofs.Prelude.{◌≡◌, ◌<◌, ◌≤◌, ℕ, ◌+◌, List, length, take, drop, refl, sym, ◌∙◌, ap, arith}
use Rattle.gate_journal.proofs.Prelude.{length-drop, drop-drop, max_record}
use Rattle.gate_journal.proofs.Blocks.{too_short, no_room, head_is_there}
use Rattle.gate_journal.proofs.reading.record_length.Goals as goal
use Rattle.gate_journal.proofs.reading.record_length.Goals.{then-count-gt-MAX_RECORD-via-then-count-gt-MAX_RECORD}
use Rattle.gate_journal.proofs.reading.record_length.Goals.{
  then-count-gt-MAX_RECORD-via-else-count-gt-MAX_RECORD+then-from-left,
}

-- the four bytes after the gate
prefix : (at : ℕ) (head file : List ℕ) → length head ≡ 4 → head ≡ take (length head) (drop (at + 1) file)
    → head ≡ take 4 (drop 1 (drop at file))
prefix at head file four read = read ∙ ap (λ (n : ℕ). take n (drop (at + 1) file)) four
    ∙ ap (take 4) (sym (drop-drop 1 at file))

pub returns-then-left-lt5-clause-reported : goal.returns-then-left-lt5-clause-reported
returns-then-left-lt5-clause-reported g c = λ reported.
    let file = (g.V.Volume.disk c.args.vol.now).reads c.args.file in (
      refl,
      refl,
      too_short (drop c.args.at file) (c.requires.opened reported)
          (omega (arith, c.requires.size reported, length-drop c.args.at file)),
    )

pub returns-then-count-gt-MAX_RECORD-clause-reported : goal.returns-then-count-gt-MAX_RECORD-clause-reported
returns-then-count-gt-MAX_RECORD-clause-reported g c = λ reported.
    let file = (g.V.Volume.disk c.args.vol.now).reads c.args.file in
    let head = c.read_exact.new.buf in
    let count = c.number-count.result in
    let size = c.requires.size reported in
    let less : count ≤ max_record → length (drop c.args.at file) < 5 + count =
    elim c.then-count-gt-MAX_RECORD.branch [
      | then-count-gt-MAX_RECORD-via-then-count-gt-MAX_RECORD w ↦ λ most.
          absurd (omega (arith, most, w.if-count-gt-MAX_RECORD.true))
      | then-count-gt-MAX_RECORD-via-else-count-gt-MAX_RECORD+then-from-left w ↦ λ most.
          omega (arith, size, length-drop c.args.at file, w.if-from-left.true, w.from.ensures, c.if-left-lt5.false)
    ] in (
      refl,
      refl,
      no_room (drop c.args.at file) head count (c.requires.opened reported)
          (prefix c.args.at head file c.read_exact.auto.buf (c.in-Ok.ensures.bytes reported))
          c.number-count.ensures.read less,
    )

pub returns-clause-reported : goal.returns-clause-reported
returns-clause-reported g c = λ reported.
    let file = (g.V.Volume.disk c.args.vol.now).reads c.args.file in
    let head = c.read_exact.new.buf in
    head_is_there (drop c.args.at file) head c.number-count.result
    (c.requires.opened reported) c.number-count.ensures.encoded
    (prefix c.args.at head file c.read_exact.auto.buf (c.in-Ok.ensures.bytes reported))
