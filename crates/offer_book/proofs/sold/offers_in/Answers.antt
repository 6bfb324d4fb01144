use Rattle.offer_book.proofs.Prelude.{◌≡◌, ◌++◌, ◌∷◌, [], List, Option, ap, sym, ◌∙◌, offers_in, LedgerEntry}
use Rattle.offer_book.proofs.Prelude.{arith, length, ◌<◌}
use Rattle.std.specs.List.{cons_option}
use Rattle.std.proofs.Common.{ℕ, ◌+◌, get_or, take, rules}
use Rattle.std.proofs.lemmas.List.{take_all, take_more}
use Rattle.ledger_types.specs.declared.offer.OfferEntry.{OfferEntry}
use Rattle.offer_book.proofs.Selling.{offers_more}
use Rattle.offer_book.proofs.sold.offers_in.Goals.{in-Some+in_ok-push, in_default}
use Rattle.offer_book.proofs.sold.offers_in.Goals as goal

-- the offers of one entry more
one_more : (es : List LedgerEntry) (i : ℕ) (e : LedgerEntry) (old new found : List OfferEntry) → i < length es
    → e ≡ get_or es i e → old ≡ offers_in (take i es) → new ≡ old ++ found → found ≡ offers_in (e ∷ [])
    → new ≡ offers_in (take (i + 1) es)
one_more es i e old new found lt at so_far is of =
    is ∙ ap (λ (os : List OfferEntry). os ++ found) so_far
    ∙ ap (λ (os : List OfferEntry). offers_in (take i es) ++ os) of ∙ sym (offers_more (take i es) e)
    ∙ ap offers_in (ap (λ (x : LedgerEntry). take i es ++ x ∷ []) at ∙ sym (take_more es i e lt))

pub loop-entry-preserved : goal.loop-entry-preserved
loop-entry-preserved c =
    let it = c.loop-entry in
    let e = c.entry-item.result in
    elim c.match-offer_in.branch [
      | in-Some+in_ok-push w ↦ one_more c.args.entries.now it.entry-index e it.offers.items
          c.match-offer_in.offers.items (w.in-Some.offer ∷ []) c.loop-entry-test.true c.entry-item.is it.invariant
          (search rules)
          (ap (λ (o : Option OfferEntry). cons_option o []) (sym w.in-Some.is ∙ c.offer_in.ensures))
      | in_default w ↦ one_more c.args.entries.now it.entry-index e it.offers.items
          c.match-offer_in.offers.items [] c.loop-entry-test.true c.entry-item.is it.invariant (search rules)
          (ap (λ (o : Option OfferEntry). cons_option o []) (sym w.in_default.is ∙ c.offer_in.ensures))
    ]

pub returns : goal.returns
returns c =
    let it = c.loop-entry in
    it.invariant ∙ ap offers_in (take_all it.entry-index c.args.entries.now
    (omega (arith, c.loop-entry-test.false, it.auto.entry-index-end)))
