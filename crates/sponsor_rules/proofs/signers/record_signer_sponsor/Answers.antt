use Rattle.sponsor_rules.proofs.Prelude.{rules, ◌∙◌, sym, ap, Some, None, on_ok_weaker, with_current, IsLoaded}
use Rattle.sponsor_rules.specs.Signers as signers
use Rattle.sponsor_rules.specs.SignerIndex as indices
use Rattle.sponsor_rules.proofs.AccountMaps.{stored_as, with_account_none}
use Rattle.sponsor_rules.proofs.signers.record_signer_sponsor.Goals as goal

pub returns-clause-recorded : goal.returns-clause-recorded
returns-clause-recorded g c =
    let loaded : IsLoaded c.args.entries.now.current c.args.account.now (Some c.in-Some.slot) = search rules in
    on_ok_weaker c.store_changed.result
    (λ is. is
    ∙ ap (with_current c.args.entries.now)
    (stored_as c.args.entries.now.current c.args.account.now
    (signers.with_moved_signer c.args.index c.args.old.now c.args.new.now) c.in-Some.slot
    c.set_signer_sponsor.new.account loaded (c.set_signer_sponsor.ensures.set
    ∙ ap (indices.with_signer_sponsor c.args.index c.args.new.now)
    c.in_ok-change_payer.ensures.changed)))
    c.store_changed.ensures.stored

pub returns-in_default-clause-recorded : goal.returns-in_default-clause-recorded
returns-in_default-clause-recorded g c =
    let loaded : IsLoaded c.args.entries.now.current c.args.account.now None = search rules in
    ap (with_current c.args.entries.now) (sym (with_account_none c.args.entries.now.current c.args.account.now
    (signers.with_moved_signer c.args.index c.args.old.now c.args.new.now) loaded))
