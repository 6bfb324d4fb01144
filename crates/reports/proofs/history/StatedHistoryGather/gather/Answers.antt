use Rattle.reports.proofs.Prelude.{Err, Ok, refl}
use Rattle.archive_files.specs.declared.form.StatedHistory.{StatedHistory}
use Rattle.reports.proofs.Histories.{history_gathered}
use Rattle.reports.proofs.history.StatedHistoryGather.gather.Goals as goal

pub returns-in-Ok-clause-gathered : goal.returns-in-Ok-clause-gathered
returns-in-Ok-clause-gathered c = λ close detailed.
    let new : StatedHistory = record c.args.self.now { history = c.add_close_of.new.history } in
    history_gathered c.args.self.now new close (Ok tt) refl refl (c.in-Ok.ensures close detailed)

pub returns-in-Err-clause-gathered : goal.returns-in-Err-clause-gathered
returns-in-Err-clause-gathered c = λ close detailed.
    let new : StatedHistory = record c.args.self.now { history = c.add_close_of.new.history } in
    history_gathered c.args.self.now new close (Err c.in-Err.end) refl refl (c.in-Err.ensures close detailed)
