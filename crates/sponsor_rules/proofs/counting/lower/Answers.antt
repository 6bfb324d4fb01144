use Rattle.sponsor_rules.proofs.Prelude.{rules, ◌≡◌, sym, subst, with_less, KeepsCore, RaisesNoCount}
use Rattle.sponsor_rules.proofs.Keeping.{at_most, with_count_core}
use Rattle.sponsor_rules.proofs.counting.lower.Goals as goal

pub returns-clause-low : goal.returns-clause-low
returns-clause-low c =
    let changed : c.set_count.new.account ≡ with_less c.args.count c.args.by c.args.account.now = search rules in
    subst (RaisesNoCount c.args.account.now) (sym changed)
    (λ count. at_most c.args.count count c.args.by c.args.account.now)

pub returns-clause-core : goal.returns-clause-core
returns-clause-core c =
    let changed : c.set_count.new.account ≡ with_less c.args.count c.args.by c.args.account.now = search rules in
    subst (KeepsCore c.args.account.now) (sym changed) (with_count_core c.args.count _ c.args.account.now)
