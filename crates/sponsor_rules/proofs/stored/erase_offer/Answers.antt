use Rattle.sponsor_rules.proofs.Prelude.{sym, subst, on_ok_weaker, RaisesNone, LeavesOtherCores}
use Rattle.sponsor_rules.proofs.AccountMaps.{erased_low, erased_balances}
use Rattle.sponsor_rules.proofs.stored.erase_offer.Goals as goal

pub returns-clause-low : goal.returns-clause-low
returns-clause-low g c = on_ok_weaker c.erase_offer.result
    (λ is. subst (λ u. RaisesNone c.args.entries.now.current u.current) (sym is)
    (erased_low c.args.entries.now.current c.args.key.now))
    c.erase_offer.ensures

pub returns-clause-core : goal.returns-clause-core
returns-clause-core g c = on_ok_weaker c.erase_offer.result
    (λ is. subst (λ u. LeavesOtherCores c.args.key.now c.args.entries.now.current u.current) (sym is)
    (erased_balances c.args.entries.now.current c.args.key.now))
    c.erase_offer.ensures
