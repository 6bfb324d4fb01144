use Rattle.image_rules.proofs.Prelude.{◌≢◌, None, All, refl, sym, ap, subst, ◌∙◌, All-nil, IfOk-weaker, flat_map, get}
use Rattle.image_rules.proofs.Prelude.{account_keys, signer_sponsors_in}
use Rattle.image_rules.proofs.Naming.{unsponsored, sponsors_by, none_named, flat_iff}
use Rattle.image_rules.proofs.owners.do_payers_exist.Goals as goal

pub returns-in-None : goal.returns-in-None
returns-in-None c =
    let a = c.in-Account.account in (
      λ _. subst (All (λ q. get c.args.entries.now q ≢ None))
          (sym (ap (flat_map account_keys) (unsponsored c.args.body.now a c.in-Account.is (sym c.in-None.ensures))
          ∙ none_named a.signers)) (All-nil (λ q. get c.args.entries.now q ≢ None)),
      λ _. refl,
    )

pub returns-in-Some : goal.returns-in-Some
returns-in-Some c =
    let s = c.in-Some.sponsorship.now in
    IfOk-weaker c.do_all_exist.result _ _ (λ there exists.
    flat_iff (λ q. get c.args.entries.now q ≢ None) there c.as_slice.result.now
    (signer_sponsors_in c.args.body.now)
    (sponsors_by c.args.body.now c.in-Account.account c.in-Account.is s (sym c.in-Some.ensures)
    ∙ sym c.as_slice.ensures)
    exists) c.do_all_exist.ensures
