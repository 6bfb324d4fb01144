use Rattle.op_flags.proofs.Prelude.{drop}
use Rattle.op_flags.proofs.Cancelling.{AreLeft}
use Rattle.op_flags.proofs.revoking.cancel_all.Given as goal

abbrev pub invariant-loop-entry : goal.invariant-loop-entry
invariant-loop-entry g l = AreLeft l.asset l.sold (drop l.entry-index l.sold) l.initial.entries l.entries
