use Rattle.sponsor_rules.proofs.Prelude.{sym, subst, on_ok_weaker, key_of, LeavesOtherCores}
use Rattle.sponsor_rules.proofs.AccountMaps.{put_balances}
use Rattle.sponsor_rules.proofs.stored.put_entry.Goals as goal

pub returns-clause-core : goal.returns-clause-core
returns-clause-core g c = on_ok_weaker c.put.result
    (λ is. subst (λ u. LeavesOtherCores (key_of c.args.entry) c.args.entries.now.current u.current) (sym is)
    (put_balances c.args.entries.now.current c.args.entry))
    c.put.ensures
