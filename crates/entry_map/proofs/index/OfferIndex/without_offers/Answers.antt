use Rattle.entry_map.proofs.Building.{less_offers, all_offers_gone, none_gone}
use Rattle.entry_map.proofs.index.OfferIndex.without_offers.Goals as goal

pub loop-offer-init : goal.loop-offer-init
loop-offer-init c = none_gone c.args.self.now c.in_ok-index.index c.in_ok-index.ensures

pub loop-offer-preserved : goal.loop-offer-preserved
loop-offer-preserved c = less_offers c.args.offers.now c.loop-offer.offer-index _ c.args.self.now c.loop-offer.index
    c.in_ok-index-2.index c.loop-offer-test.true c.in_ok-index-2.ensures.value c.loop-offer.invariant

pub returns : goal.returns
returns c = all_offers_gone c.args.offers.now c.loop-offer.offer-index c.args.self.now c.loop-offer.index
    c.loop-offer-test.false c.loop-offer.invariant
