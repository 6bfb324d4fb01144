use Rattle.sponsor_rules.proofs.Prelude.{rules, ◌∙◌, sym, ap, Some, None, on_ok_weaker, with_current, IsLoaded}
use Rattle.sponsor_rules.specs.Signers as signers
use Rattle.sponsor_rules.specs.SignerIndex as indices
use Rattle.sponsor_rules.proofs.AccountMaps.{stored_as, with_account_none}
use Rattle.sponsor_rules.proofs.signers.take_signer.Goals as goal

pub returns-clause-taken : goal.returns-clause-taken
returns-clause-taken g c =
    let loaded : IsLoaded c.args.entries.now.current c.args.account.now (Some c.in-Some.slot) = search rules in
    on_ok_weaker c.store_changed.result
    (λ is. is
    ∙ ap (with_current c.args.entries.now)
    (stored_as c.args.entries.now.current c.args.account.now
    (signers.without_counted_signer c.args.found) c.in-Some.slot c.remove_signer_at.new.account loaded
    (c.remove_signer_at.ensures.removed
    ∙ ap (indices.without_signer c.args.found.index) c.in_ok-lose_subentry.ensures.lost)))
    c.store_changed.ensures.stored

pub returns-in_default-clause-taken : goal.returns-in_default-clause-taken
returns-in_default-clause-taken g c =
    let loaded : IsLoaded c.args.entries.now.current c.args.account.now None = search rules in
    ap (with_current c.args.entries.now) (sym (with_account_none c.args.entries.now.current c.args.account.now
    (signers.without_counted_signer c.args.found) loaded))
