use Rattle.image_rules.proofs.Prelude.{◌≢◌, None, subst, All, get, LedgerKey, account_keys, pools_in}
use Rattle.std.proofs.Common.{IsTrue, ◌↔◌}
use Rattle.image_rules.proofs.Naming.{needed_iff}
use Rattle.image_rules.proofs.owners.is_owned.Goals as goal

pub returns-clause-answer : goal.returns-clause-answer
returns-clause-answer c =
    let P = λ (q : LedgerKey). get c.args.entries.now q ≢ None in
    let m = c.args.entries.now in
    let e = c.args.entry.now in
    needed_iff P (pools_in m) e c.are_all.result c.in_ok-owner.owner c.in_ok-sponsor.sponsor c.in_ok-payers.payers
    c.in_ok-holders.holders c.are_all.ensures c.in_ok-owner.ensures.answer
    (subst (λ o. IsTrue c.in_ok-sponsor.sponsor ↔ All P (account_keys o)) c.sponsor_in.ensures c.in_ok-sponsor.ensures)
    c.in_ok-payers.ensures c.in_ok-holders.ensures
