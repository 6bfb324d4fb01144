use Rattle.record_stream.proofs.Prelude.{ℕ, ap, sym, subst, ◌∙◌, u64, file, IsPassed}
use Rattle.record_stream.proofs.Layouts.{file_passed}
use Rattle.record_stream.proofs.layout.pass_file.Goals as goal

pub returns-clause-passes : goal.returns-clause-passes
returns-clause-passes c text h =
    subst (λ (n : ℕ). IsPassed text (file c.args.max) c.args.cursor.now c.bytes.new.self
    (record { start = n; len = c.in_ok-len.len })) (sym c.at-start.ensures)
    (file_passed text c.args.max c.in_ok-len.len c.args.cursor.now c.u64.new.self c.bytes.new.self
    c.in_ok-bytes.field-0.now h (ap u64.read (sym c.fork-ahead.ensures) ∙ c.in_ok-len.ensures) c.if-len-max.false
    c.in_ok-bytes.ensures.reads)
