-- An old offer that is out of its book can be sold.
use Rattle.op_offers.proofs.Prelude.{◌≡◌, ◌≢◌, sym, ap, subst, ◌∙◌, Some, None, ℤ, get, AccountId, OfferEntry}
use Rattle.op_offers.proofs.Prelude.{LedgerEntry, EntryMap, HasAccount, sponsor_of, Ctx, View, one_more, nothing_owed}
use Rattle.op_offers.proofs.Prelude.{IsEntryLegal, IsLegalOwing, holder, with_offer_body, offer_key, holder_own, Ask}
use Rattle.op_offers.proofs.Prelude.{sell_fault, buy_fault, old_asked, Asked, map_without_offer, IsAskedRightly}
use Rattle.ledger_types.specs.declared.entry.LedgerEntryBody.TheVariants as body
use Rattle.op_offers.proofs.OutLeft.{out_held}
use Rattle.op_offers.proofs.OutOfBook.{old_offers_out}
use Rattle.op_offers.proofs.Tested.{IsValidAsk, sells_held, buys_held}

module _ (ctx : Ctx) (ask : Ask) (m : EntryMap) (v : View) (sum : ℤ)
    (legal : IsLegalOwing v ctx.id_pool nothing_owed sum m) (old : OfferEntry) (e : LedgerEntry)
    (there : get m (offer_key old) ≡ Some e) (is : e.body ≡ body.Offer old) (own : old.seller_id ≡ ctx.op_source) where
  abbrev asked : Asked
  asked = old_asked ctx ask old e

  abbrev out : EntryMap
  out = map_without_offer old m

  its_entry : IsEntryLegal ctx.id_pool (with_offer_body e old)
  its_entry = subst (IsEntryLegal ctx.id_pool) (λ i. record e { body = is i }) (legal.entries (offer_key old) e there)

  -- It is counted and doesn't exist.
  pub old_counted : IsLegalOwing v ctx.id_pool (one_more ctx.op_source (sponsor_of e)) sum out
  old_counted = subst (λ x. IsLegalOwing v ctx.id_pool (one_more x (sponsor_of e)) sum out) own
      (old_offers_out v ctx.id_pool sum old e m legal there is).0

  paid_by_other : (x : AccountId) → sponsor_of e ≡ Some x → x ≢ ctx.op_source
  paid_by_other x some same = its_entry.range.paid (λ none. absurd (cc)) (some ∙ ap Some (same ∙ sym own))

  -- What passed the tests of its fields and lines can be sold under its id.
  pub old_rightly : HasAccount m ctx.op_source → IsValidAsk ask
      → sell_fault m (holder ctx.op_source ask.selling) ≡ None
      → buy_fault m (holder ctx.op_source ask.buying) ≡ None → IsAskedRightly ctx.id_pool asked out
  old_rightly exists valid gives takes =
      let sells = holder ctx.op_source ask.selling in
      let buys = holder ctx.op_source ask.buying in
      record {
        gives = out_held v ctx.id_pool sum old e m legal there is sells
            (sells_held m ctx.op_source exists sells (holder_own ctx.op_source ask.selling) gives);
        takes = out_held v ctx.id_pool sum old e m legal there is buys
            (buys_held m ctx.op_source exists buys (holder_own ctx.op_source ask.buying) takes);
        free = (old_offers_out v ctx.id_pool sum old e m legal there is).3;
        paid = paid_by_other;
        n = valid.n;
        d = valid.d;
        id_low = its_entry.range.body.id_low;
        id_high = its_entry.range.body.id_high;
        selling = valid.selling;
        buying = valid.buying;
        assets = valid.assets;
        flags = its_entry.range.body.flags;
      }
