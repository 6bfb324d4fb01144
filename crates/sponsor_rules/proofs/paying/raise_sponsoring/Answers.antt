use Rattle.sponsor_rules.proofs.Prelude.{rules, ◌∙◌, sym, ap, Some, None, on_ok_weaker, with_current, IsLoaded}
use Rattle.sponsor_rules.proofs.Prelude.{Sponsoring, with_more}
use Rattle.sponsor_rules.proofs.AccountMaps.{stored_as, with_account_none}
use Rattle.sponsor_rules.proofs.paying.raise_sponsoring.Goals as goal

pub returns-clause-charged : goal.returns-clause-charged
returns-clause-charged g c =
    let loaded : IsLoaded c.args.entries.now.current c.args.sponsor.now (Some c.in-Some.slot) = search rules in
    on_ok_weaker c.store_changed.result
    (λ is. is ∙ ap (with_current c.args.entries.now) (stored_as c.args.entries.now.current c.args.sponsor.now
    (with_more Sponsoring c.args.multiplicity) c.in-Some.slot c.raise.new.account loaded c.in_ok-raise.ensures.raised))
    c.store_changed.ensures.stored

pub returns-in_default-clause-charged : goal.returns-in_default-clause-charged
returns-in_default-clause-charged g c =
    let loaded : IsLoaded c.args.entries.now.current c.args.sponsor.now None = search rules in
    ap (with_current c.args.entries.now) (sym (with_account_none c.args.entries.now.current c.args.sponsor.now
    (with_more Sponsoring c.args.multiplicity) loaded))
