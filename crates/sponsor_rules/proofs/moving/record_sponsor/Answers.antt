use Rattle.sponsor_rules.proofs.Prelude.{rules, ◌≡◌, sym, subst, Some, on_ok_weaker, get, key_of, put, LeavesCore}
use Rattle.sponsor_rules.proofs.AccountMaps.{recorded_balances}
use Rattle.sponsor_rules.proofs.moving.record_sponsor.Goals as goal

pub returns-clause-core : goal.returns-clause-core
returns-clause-core g c =
    let m = c.args.entries.now.current in
    let there : get c.args.entries.now.current c.args.key.now ≡ Some c.in-Some.entry = search rules in
    let named : key_of c.in-Some.entry ≡ c.args.key.now = search rules in
    on_ok_weaker c.put.result
    (λ is. subst (λ u. LeavesCore m u.current) (sym is)
    (subst (λ e. LeavesCore m (put m e)) (sym c.set_sponsor.ensures)
    (recorded_balances m c.args.key.now c.in-Some.entry c.args.sponsor there named)))
    c.put.ensures
