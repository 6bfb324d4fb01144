use Rattle.op_flags.proofs.Prelude.{◌≡◌, List, sym, subst, ap, ◌∙◌, OnOk, filter, with_current, trades_in, OfferEntry}
use Rattle.op_flags.proofs.Prelude.{map_after_cancelling_all, map_without_offers, AreExisting, LedgerEntry, offers_by}
use Rattle.entry_map.specs.Book.{offers_in}
use Rattle.offer_book.specs.Sold.{IsOfferOf}
use Rattle.op_flags.specs.Existing.{AreFound}
use Rattle.op_flags.proofs.OwnOffers.{numbered, existing}
use Rattle.op_flags.proofs.revoking.revoke_offers.Goals as goal

pub cancel_all-requires-clause-found : goal.cancel_all-requires-clause-found
cancel_all-requires-clause-found g c =
    let m = c.args.entries.now.current in
    let sold = c.in_ok-sold.ensures (numbered m c.requires.crossable) in
    subst (AreFound m) (sym c.as_slice.ensures.value)
    (record {
      each = sold.each;
      existing = subst (AreExisting m) (sym sold.offers) (existing m c.args.trustor.now c.requires.crossable);
    })

pub returns : goal.returns
unfolding map_without_offers
returns g c =
    let m = c.args.entries.now.current in
    let sold = c.in_ok-sold.ensures (numbered m c.requires.crossable) in
    subst (λ (os : List OfferEntry). OnOk c.cancel_all.result (c.cancel_all.new.entries
    ≡ with_current c.args.entries.now (map_after_cancelling_all (filter (trades_in c.args.asset.now) os) m)))
    (ap offers_in c.as_slice.ensures.value ∙ sold.offers) c.cancel_all.ensures
