use Rattle.reports.proofs.Prelude.{◌≡◌, ◌++◌, take}
use Rattle.run_outcome.specs.ChangesRun.{change_records}
use Rattle.reports.proofs.changes.add_changes.Given as goal

abbrev pub invariant-loop-change : goal.invariant-loop-change
invariant-loop-change l = l.text ≡ l.fn.text ++ change_records (take l.change-index l.list)
