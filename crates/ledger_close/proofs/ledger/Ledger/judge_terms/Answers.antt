use Rattle.ledger_close.proofs.Prelude.{Ok, Err, sym, ap, ◌∙◌, set_encoded, LedgerAt}
use Rattle.ledger_close.proofs.Parts.{upgraded_by, upgrades_few}
use Rattle.ledger_close.proofs.ledger.Ledger.judge_terms.Goals as goal

pub set_order-requires : goal.set_order-requires
set_order-requires c = (set_encoded c.args.closing.now c.requires).within

pub upgraded-requires : goal.upgraded-requires
upgraded-requires c = upgrades_few c.args.closing.now c.requires

pub returns-in-Ok : goal.returns-in-Ok
returns-in-Ok c =
    let s = c.args.self.now.state in
    let h = ap (λ (x : LedgerAt). x.state.header) (sym c.self.view_is) in (
      upgraded_by s c.args.closing.now (Ok c.in-Ok.next) (sym (c.term_fault.ensures s h) ∙ c.in_default.is)
          (c.in-Ok.ensures s (h ∙ sym c.in_ok-copy.ensures)),
      c.in_ok-set_hash.ensures.indices,
    )

pub returns-in-Err : goal.returns-in-Err
returns-in-Err c =
    let s = c.args.self.now.state in
    let h = ap (λ (x : LedgerAt). x.state.header) (sym c.self.view_is) in
    upgraded_by s c.args.closing.now (Err c.in-Err.fault) (sym (c.term_fault.ensures s h) ∙ c.in_default.is)
    (c.in-Err.ensures s (h ∙ sym c.in_ok-copy.ensures))
