use Rattle.image_rules.proofs.Prelude.{sym, subst, IfOk-weaker, LedgerEntryBody}
use Rattle.image_rules.specs.Holdings.{AreTradedIn}
use Rattle.image_rules.proofs.holdings.holdings_of.Goals as goal

pub returns-in-Offer-clause-held : goal.returns-in-Offer-clause-held
returns-in-Offer-clause-held c = IfOk-weaker c.held_by.result _ _ (λ found held.
    subst (λ (b : LedgerEntryBody). AreTradedIn c.args.entries.now b found) (sym c.in-Offer.is)
    (record { there = held.there; authorized = held.authorized })) c.held_by.ensures.held
