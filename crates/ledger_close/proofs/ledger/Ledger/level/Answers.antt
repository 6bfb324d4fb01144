use Rattle.ledger_close.proofs.Prelude.{subst, IsClosingState, LedgerAt}
use Rattle.ledger_close.proofs.Works.{keyed_by}
use Rattle.ledger_close.proofs.ledger.Ledger.level.Goals as goal

pub fresh_bucket-requires : goal.fresh_bucket-requires
fresh_bucket-requires g c =
    let state = subst (λ (l : LedgerAt). IsClosingState l.state) c.self.view_is c.self.invariant.state in
    let after = c.requires.encodable in (
      c.args.self.now.state.entries,
      after.0,
      after.1,
      keyed_by c.args.self.now.state.entries state.legal.keyed,
      state.entries,
      after.2,
    )
