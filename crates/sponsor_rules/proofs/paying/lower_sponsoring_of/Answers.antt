use Rattle.sponsor_rules.proofs.Prelude.{rules, ◌∙◌, sym, ap, Some, None, on_ok_weaker, with_current, IsLoaded}
use Rattle.sponsor_rules.proofs.Prelude.{Sponsoring, with_less}
use Rattle.sponsor_rules.proofs.AccountMaps.{stored_as, with_account_none}
use Rattle.sponsor_rules.proofs.paying.lower_sponsoring_of.Goals as goal

pub returns-clause-released : goal.returns-clause-released
returns-clause-released g c =
    let loaded : IsLoaded c.args.entries.now.current c.args.sponsor.now (Some c.in-Some.slot) = search rules in
    on_ok_weaker c.store_changed.result
    (λ is. is ∙ ap (with_current c.args.entries.now) (stored_as c.args.entries.now.current c.args.sponsor.now
    (with_less Sponsoring c.args.multiplicity) c.in-Some.slot c.lower.new.account loaded c.in_ok-lower.ensures.lowered))
    c.store_changed.ensures.stored

pub returns-in_default-clause-released : goal.returns-in_default-clause-released
returns-in_default-clause-released g c =
    let loaded : IsLoaded c.args.entries.now.current c.args.sponsor.now None = search rules in
    ap (with_current c.args.entries.now) (sym (with_account_none c.args.entries.now.current c.args.sponsor.now
    (with_less Sponsoring c.args.multiplicity) loaded))
