use Rattle.image_rules.proofs.Prelude.{◌≢◌, None, sym, subst, All, get, LedgerEntryBody, holding_keys, pools_in}
use Rattle.std.proofs.Common.{IsTrue, ◌↔◌}
use Rattle.image_rules.specs.Holdings.{traded_keys}
use Rattle.ledger_types.specs.declared.entry.LedgerEntryBody.TheVariants as body
use Rattle.image_rules.proofs.owners.are_holders_there.Goals as goal

pub returns-in-Offer : goal.returns-in-Offer
returns-in-Offer c =
    let m = c.args.entries.now in
    subst (λ (b : LedgerEntryBody). IsTrue c.args.traded ↔ All (λ q. get m q ≢ None) (holding_keys (pools_in m) b))
    (sym c.in-Offer.is)
    (subst (λ (b : LedgerEntryBody). IsTrue c.args.traded ↔ All (λ q. get m q ≢ None) (traded_keys b)) c.in-Offer.is
    c.requires)
