use Rattle.ledger_close.proofs.Prelude.{None, subst, IsClosingState, LedgerAt, prepared_in}
use Rattle.ledger_close.proofs.Parts.{by_terms_refused, by_set_refused, by_set, goes_on}
use Rattle.ledger_close.proofs.Finishing.{seq_by_terms}
use Rattle.ledger_close.proofs.ledger.Ledger.close.Goals as goal

pub returns-in-Err-clause-closed : goal.returns-in-Err-clause-closed
returns-in-Err-clause-closed g c = by_terms_refused c.args.self.now.state c.args.closing c.in-Err.fault c.in-Err.ensures

pub apply-requires-clause-seq : goal.apply-requires-clause-seq
apply-requires-clause-seq g c =
    let state = subst (λ (l : LedgerAt). IsClosingState l.state) c.self.view_is c.self.invariant.state in
    seq_by_terms c.args.self.now.state c.args.closing c.in-Ok.ensures.0.0 state.legal.header.seq_high

pub returns-in-Err-apply-clause-closed : goal.returns-in-Err-apply-clause-closed
returns-in-Err-apply-clause-closed g c =
    by_set_refused c.args.self.now.state c.args.closing c.in-Err-apply.fault c.in-Ok.ensures.0.0
    c.in-Err-apply.ensures

pub finish_close-requires-clause-unrefused : goal.finish_close-requires-clause-unrefused
finish_close-requires-clause-unrefused g c =
    by_set c.args.self.now.state c.args.closing None c.in-Ok.ensures.0.0 c.in-Ok-apply.ensures.0

pub returns-clause-closed : goal.returns-clause-closed
returns-clause-closed g c =
    goes_on c.args.self.now.state c.args.closing (prepared_in c.finish_close.result)
    (by_set c.args.self.now.state c.args.closing None c.in-Ok.ensures.0.0 c.in-Ok-apply.ensures.0)
    c.finish_close.ensures.finished
