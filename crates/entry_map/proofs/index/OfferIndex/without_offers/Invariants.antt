use Rattle.entry_map.proofs.Prelude.{◌≡◌, take, without_offers}
use Rattle.entry_map.proofs.index.OfferIndex.without_offers.Given as goal

abbrev pub invariant-loop-offer : goal.invariant-loop-offer
invariant-loop-offer l = l.index ≡ without_offers l.fn.self (take l.offer-index l.offers)
