use Rattle.image_rules.proofs.Prelude.{◌≡◌, ◌∙◌, sym, subst, LedgerEntry, tally_in, agrees_in, StillAgrees}
use Rattle.image_rules.proofs.Agreeing.{offer_passed}
use Rattle.image_rules.proofs.agreement.with_entry_at.Goals as goal

pub returns-then-is_offer : goal.returns-then-is_offer
returns-then-is_offer c which e at =
    offer_passed which c.args.placed.now (tally_in c.args.tallies.now which) e (agrees_in c.args.before which)
    (sym (c.is_offer.ensures e at) ∙ c.if-is_offer.true)

pub returns : goal.returns
returns c which e at =
    let same : c.in_ok-entry.entry ≡ e = cc (c.in_ok-entry.ensures.entry, at) in
    subst (λ (x : LedgerEntry). StillAgrees (tally_in c.args.tallies.now which) which x (agrees_in c.args.before which)
    (agrees_in c.with_entry.result which)) same (c.with_entry.ensures which)
