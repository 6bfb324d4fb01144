use Rattle.sponsor_rules.proofs.Prelude.{rules, ◌∙◌, sym, ap, Some, None, on_ok_weaker, with_current, IsLoaded}
use Rattle.sponsor_rules.specs.Paying as paying
use Rattle.sponsor_rules.proofs.AccountMaps.{stored_as, with_account_none}
use Rattle.sponsor_rules.proofs.adding.count_for_owner.Goals as goal

pub returns-clause-counted : goal.returns-clause-counted
returns-clause-counted g c =
    let loaded : IsLoaded c.args.entries.now.current c.args.owner.now (Some c.in-Some.slot) = search rules in
    on_ok_weaker c.store_changed.result
    (λ is. is ∙ ap (with_current c.args.entries.now) (stored_as c.args.entries.now.current c.args.owner.now
    (paying.with_subentry c.args.multiplicity c.args.sponsor.now) c.in-Some.slot c.gain_subentry.new.account loaded
    c.in_ok-gain_subentry.ensures.gained))
    c.store_changed.ensures.stored

pub returns-in_default-clause-counted : goal.returns-in_default-clause-counted
returns-in_default-clause-counted g c =
    let loaded : IsLoaded c.args.entries.now.current c.args.owner.now None = search rules in
    ap (with_current c.args.entries.now) (sym (with_account_none c.args.entries.now.current c.args.owner.now
    (paying.with_subentry c.args.multiplicity c.args.sponsor.now) loaded))
