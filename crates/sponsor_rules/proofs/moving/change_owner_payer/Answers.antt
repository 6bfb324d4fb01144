use Rattle.sponsor_rules.proofs.Prelude.{rules, ◌∙◌, sym, ap, Some, None, on_ok_weaker, with_current, IsLoaded}
use Rattle.sponsor_rules.specs.Paying as paying
use Rattle.sponsor_rules.proofs.AccountMaps.{stored_as, with_account_none}
use Rattle.sponsor_rules.proofs.moving.change_owner_payer.Goals as goal

pub returns-clause-changed : goal.returns-clause-changed
returns-clause-changed g c =
    let loaded : IsLoaded c.args.entries.now.current c.args.owner.now (Some c.in-Some.slot) = search rules in
    on_ok_weaker c.store_changed.result
    (λ is. is ∙ ap (with_current c.args.entries.now) (stored_as c.args.entries.now.current c.args.owner.now
    (paying.with_other_payer c.args.multiplicity c.args.old.now c.args.new.now) c.in-Some.slot
    c.change_payer.new.account
    loaded c.in_ok-change_payer.ensures.changed))
    c.store_changed.ensures.stored

pub returns-in_default-clause-changed : goal.returns-in_default-clause-changed
returns-in_default-clause-changed g c =
    let loaded : IsLoaded c.args.entries.now.current c.args.owner.now None = search rules in
    ap (with_current c.args.entries.now) (sym (with_account_none c.args.entries.now.current c.args.owner.now
    (paying.with_other_payer c.args.multiplicity c.args.old.now c.args.new.now) loaded))
