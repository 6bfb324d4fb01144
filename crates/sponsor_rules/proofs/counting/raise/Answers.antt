use Rattle.sponsor_rules.proofs.Prelude.{rules, ◌≡◌, sym, subst, with_more, KeepsCore, KeepsOtherCounts}
use Rattle.sponsor_rules.proofs.Keeping.{with_count_keeps, with_count_core}
use Rattle.sponsor_rules.proofs.counting.raise.Goals as goal

pub returns-clause-kept : goal.returns-clause-kept
returns-clause-kept c =
    let changed : c.set_count.new.account ≡ with_more c.args.count c.args.by c.args.account.now = search rules in
    subst (KeepsOtherCounts c.args.count c.args.account.now) (sym changed)
    (λ other. with_count_keeps c.args.count other _ c.args.account.now)

pub returns-clause-core : goal.returns-clause-core
returns-clause-core c =
    let changed : c.set_count.new.account ≡ with_more c.args.count c.args.by c.args.account.now = search rules in
    subst (KeepsCore c.args.account.now) (sym changed) (with_count_core c.args.count _ c.args.account.now)
