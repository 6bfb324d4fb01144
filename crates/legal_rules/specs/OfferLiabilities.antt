-- What an offer binds of what its owner has: the wheat that it would give, and of what its owner has room for the
-- sheep that it would take in (CAP-0003; OfferExchange in stellar-core).
use Rattle.hash_ids.specs.ledger_types.declared.offer.OfferEntry.{OfferEntry}
use Rattle.offer_exchange.specs.Exchange.{Amounts}
use Rattle.offer_exchange.specs.Calls.{bound_by}

abbrev pub bound_of : OfferEntry → Amounts
bound_of o = bound_by o.price o.amount
