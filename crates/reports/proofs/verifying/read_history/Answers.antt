use Rattle.std.proofs.Common.{subst, sym}
use Rattle.run_outcome.specs.run_streams.Seen.{seen}
use Rattle.archive_files.specs.declared.form.StatedHistory.{StatedHistory}
use Rattle.reports.specs.HistoryInput.{IsInput, IsText}
use Rattle.reports.proofs.verifying.read_history.Goals as goal

pub history_of-requires : goal.history_of-requires
history_of-requires g c =
    let e = c.in_ok-text.ensures in
    (e.history, subst (IsText e.history) (sym c.as_slice.ensures.value) e.is)

pub returns-in-Ok : goal.returns-in-Ok
returns-in-Ok g c =
    let e = c.in_ok-text.ensures in
    let same = c.in-Ok.ensures e.history (subst (IsText e.history) (sym c.as_slice.ensures.value) e.is) in
    subst (λ (h : StatedHistory). IsInput h (seen g.I.Source.left g.I.Source.faults c.args.input.now
    c.read_entire.new.input)) (sym same)
    (record { text = c.in_ok-text.text.items; gave = e.gave; ended = e.ended; is = e.is; within = e.within })
