use Rattle.sponsor_rules.proofs.Prelude.{rules, ◌∙◌, sym, ap, Some, None, on_ok_weaker, with_current, IsLoaded}
use Rattle.sponsor_rules.specs.Signers as signers
use Rattle.sponsor_rules.specs.SignerIndex as indices
use Rattle.sponsor_rules.proofs.AccountMaps.{stored_as, with_account_none}
use Rattle.sponsor_rules.proofs.signers.put_signer.Goals as goal

pub returns-clause-added : goal.returns-clause-added
returns-clause-added g c =
    let loaded : IsLoaded c.args.entries.now.current c.args.account.now (Some c.in-Some.slot) = search rules in
    on_ok_weaker c.store_changed.result
    (λ is. is
    ∙ ap (with_current c.args.entries.now)
    (stored_as c.args.entries.now.current c.args.account.now
    (signers.with_counted_signer c.args.signer c.args.sponsor) c.in-Some.slot c.insert_signer.new.account
    loaded (c.in_ok-insert_signer.ensures.inserted
    ∙ ap (indices.with_signer c.args.signer c.args.sponsor) c.in_ok-gain_subentry.ensures.gained)))
    c.store_changed.ensures.stored

pub returns-in_default-clause-added : goal.returns-in_default-clause-added
returns-in_default-clause-added g c =
    let loaded : IsLoaded c.args.entries.now.current c.args.account.now None = search rules in
    ap (with_current c.args.entries.now) (sym (with_account_none c.args.entries.now.current c.args.account.now
    (signers.with_counted_signer c.args.signer c.args.sponsor) loaded))
