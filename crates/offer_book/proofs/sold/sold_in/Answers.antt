use Rattle.offer_book.proofs.Prelude.{sym, ap, ◌∙◌, offer_in, exact_accounts}
use Rattle.offer_book.proofs.sold.sold_in.Goals as goal

pub returns-in-Equal : goal.returns-in-Equal
returns-in-Equal c = (
  ap offer_in c.in-Offer.is,
  exact_accounts c.in-Offer.offer.seller_id c.args.seller.now (sym c.cmp.ensures ∙ c.in-Equal.is),
)
