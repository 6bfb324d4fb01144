use Rattle.sponsor_rules.proofs.Prelude.{rules, ◌∙◌, sym, ap, Some, None, on_ok_weaker, with_current, IsLoaded}
use Rattle.sponsor_rules.specs.Paying as paying
use Rattle.sponsor_rules.proofs.AccountMaps.{stored_as, with_account_none}
use Rattle.sponsor_rules.proofs.removing.discount_for_owner.Goals as goal

pub returns-clause-discounted : goal.returns-clause-discounted
returns-clause-discounted g c =
    let loaded : IsLoaded c.args.entries.now.current c.args.owner.now (Some c.in-Some.slot) = search rules in
    on_ok_weaker c.store_changed.result
    (λ is. is ∙ ap (with_current c.args.entries.now) (stored_as c.args.entries.now.current c.args.owner.now
    (paying.without_subentry c.args.multiplicity c.args.sponsor.now) c.in-Some.slot c.lose_subentry.new.account loaded
    c.in_ok-lose_subentry.ensures.lost))
    c.store_changed.ensures.stored

pub returns-in_default-clause-discounted : goal.returns-in_default-clause-discounted
returns-in_default-clause-discounted g c =
    let loaded : IsLoaded c.args.entries.now.current c.args.owner.now None = search rules in
    ap (with_current c.args.entries.now) (sym (with_account_none c.args.entries.now.current c.args.owner.now
    (paying.without_subentry c.args.multiplicity c.args.sponsor.now) loaded))
