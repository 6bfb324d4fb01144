use Rattle.sponsor_rules.proofs.Prelude.{sym, subst, Some, on_ok_weaker, KeepsOthers, RaisesNone, ChangesAtMost}
use Rattle.sponsor_rules.proofs.Prelude.{LeavesCore}
use Rattle.sponsor_rules.proofs.AccountMaps.{stored_balances, stored_others, stored_kept, stored_low}
use Rattle.sponsor_rules.proofs.stored.store_changed.Goals as goal

pub returns-clause-core : goal.returns-clause-core
returns-clause-core g c = on_ok_weaker c.store_account.result
    (λ is. subst (λ u. LeavesCore c.args.entries.now.current u.current) (sym is)
    (stored_balances c.args.entries.now.current c.args.id.now c.args.slot c.requires.named c.requires.change))
    c.store_account.ensures

pub returns-clause-others : goal.returns-clause-others
returns-clause-others g c = on_ok_weaker c.store_account.result
    (λ is. subst (λ u. ChangesAtMost (Some c.args.id.now) c.args.entries.now.current u.current) (sym is)
    (stored_others c.args.entries.now.current c.args.id.now c.args.slot c.requires.named))
    c.store_account.ensures

pub returns-clause-kept : goal.returns-clause-kept
returns-clause-kept g c = λ count keeps. on_ok_weaker c.store_account.result
    (λ is. subst (λ u. KeepsOthers count c.args.entries.now.current u.current) (sym is)
    (stored_kept c.args.entries.now.current c.args.id.now c.args.slot count c.requires.named c.requires.change keeps))
    c.store_account.ensures

pub returns-clause-low : goal.returns-clause-low
returns-clause-low g c = λ low. on_ok_weaker c.store_account.result
    (λ is. subst (λ u. RaisesNone c.args.entries.now.current u.current) (sym is)
    (stored_low c.args.entries.now.current c.args.id.now c.args.slot c.requires.named c.requires.change low))
    c.store_account.ensures
