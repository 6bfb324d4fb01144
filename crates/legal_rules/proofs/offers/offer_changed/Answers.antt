use Rattle.legal_rules.proofs.offers.offer_changed.Goals as goal
use Rattle.legal_rules.proofs.OffersKept.{offer_changed}

pub returns : goal.returns
returns c = offer_changed
