use Rattle.op_claim.proofs.Prelude.{sym, subst, BalancesAreInRange}
use Rattle.std.proofs.lemmas.Result.{on_ok_weaker}
use Rattle.ledger_types.specs.declared.key.LedgerKey.TheVariants as key
use Rattle.op_claim.proofs.Removing.{balances_removed}
use Rattle.op_claim.proofs.claim_claimable_balance.remove_balance.Goals as goal

pub returns-clause-in_range : goal.returns-clause-in_range
returns-clause-in_range g c = on_ok_weaker c.remove_entry.result
    (λ is. subst (λ u. BalancesAreInRange u.current) (sym is)
    (balances_removed (key.ClaimableBalance c.args.id.now) c.args.entries.now.current c.requires))
    c.remove_entry.ensures.removed
