use Rattle.probe.proofs.Prelude.{sym, subst, true, IsReadyLedger}
use Rattle.probe.proofs.Empty.{nothing_is_ready}
use Rattle.probe.proofs.case.run_over.Goals as goal

pub put_all-requires : goal.put_all-requires
put_all-requires c = subst (IsReadyLedger true) (sym c.in_ok-entries.ensures) (nothing_is_ready true)
