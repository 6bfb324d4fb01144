use Rattle.sponsor_rules.proofs.Prelude.{sym, subst, on_ok_weaker, key_of, entry_of_account, LeavesOtherCores}
use Rattle.sponsor_rules.proofs.AccountMaps.{put_balances}
use Rattle.sponsor_rules.proofs.adding.put_account.Goals as goal

pub returns-clause-core : goal.returns-clause-core
returns-clause-core g c = on_ok_weaker c.store_account.result
    (λ is. subst (λ u. LeavesOtherCores (key_of (entry_of_account c.args.slot)) c.args.entries.now.current u.current)
    (sym is)
    (put_balances c.args.entries.now.current (entry_of_account c.args.slot)))
    c.store_account.ensures
